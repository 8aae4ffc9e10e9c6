pub mod Books
pub mod Rolls
