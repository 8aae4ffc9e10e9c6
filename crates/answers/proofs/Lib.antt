pub mod Appending
pub mod Digits
