mod Cutting
mod Growing
