pub mod Desk
pub mod Registers
