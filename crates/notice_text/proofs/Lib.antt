pub mod Inverting
