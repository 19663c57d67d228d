-- The proofs of this crate that others cite.
pub mod Turns
pub mod Prevailing
pub mod Far
