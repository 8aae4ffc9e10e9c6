pub mod Commands
pub mod Vocabularies
