pub mod Cutting
pub mod Reading
mod Whole
