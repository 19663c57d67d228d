-- The definitions of this crate: what a look-ahead answers, and apart from it what only the functions within are told by.
pub mod Ahead
pub mod Inner
