-- The proofs of this crate that others cite.
pub mod Search
pub mod Ordered
pub mod Served
pub mod Answered
pub mod StartingFill
