mod Splitting
mod Wording
mod Stated
mod Unended
mod Whole
