-- The definitions of this crate.
pub mod Good
pub mod Checks
pub mod Answers
pub mod History
pub mod StartingFill
