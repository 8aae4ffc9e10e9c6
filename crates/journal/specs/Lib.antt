pub mod Model
pub mod Stages
