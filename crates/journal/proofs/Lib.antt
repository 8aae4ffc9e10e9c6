pub mod Passes
pub mod Supplies
pub mod Numbering
pub mod Issuing
