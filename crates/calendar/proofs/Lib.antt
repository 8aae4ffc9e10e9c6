mod Every
mod Figures
pub mod Months
pub mod Years
pub mod Starts
pub mod Reading
