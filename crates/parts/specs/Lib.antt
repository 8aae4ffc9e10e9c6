pub mod Cutting
pub mod Pricing
pub mod Metering
