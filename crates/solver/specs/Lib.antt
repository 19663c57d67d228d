-- The definitions of this crate: what `forced`, `mark`, `least` and `plan` answer, and apart from it what only the functions within are told by.
pub mod Entries
pub mod Forcing
pub mod Marking
pub mod Least
pub mod Planning
pub mod Inner
