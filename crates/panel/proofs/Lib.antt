-- The proofs of this crate that others cite.
pub mod OnLines
pub mod Tokens
pub mod Filled
