pub mod Roundings
pub mod Answered
