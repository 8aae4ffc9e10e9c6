pub mod Extending
pub mod Growing
pub mod Parting
pub mod Monthly
pub mod Adding
pub mod Telling
pub mod Counting
