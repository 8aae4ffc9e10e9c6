pub mod Items
pub mod Quotas
pub mod Tables
