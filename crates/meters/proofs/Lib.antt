pub mod Hourly
