pub mod Appended
pub mod Numbers
pub mod Pieces
pub mod Taken
