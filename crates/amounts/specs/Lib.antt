pub mod Amounts
pub mod Laws
pub mod Refusals
pub mod Tables
