pub mod Laws
pub mod Stating
