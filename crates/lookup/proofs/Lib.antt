mod Parting
pub mod Keeping
