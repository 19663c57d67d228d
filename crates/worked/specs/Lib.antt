-- The definitions of this crate.
pub mod Beliefs
pub mod Worked
