pub mod Issues
pub mod Shared
pub mod Writing
pub mod Taking
