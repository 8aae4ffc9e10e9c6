pub mod Days
pub mod Hours
pub mod Dates
pub mod Laws
