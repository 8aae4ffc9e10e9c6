pub mod Books
pub mod Issue
pub mod Laws
