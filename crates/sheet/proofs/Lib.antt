-- The proofs of this crate that others cite.
mod Leasts
mod Orders
