-- The definitions of this crate.
pub mod Owners
pub mod Limits
pub mod Game
pub mod Vessel
pub mod Fill
pub mod Play
pub mod Rows
pub mod Forced
pub mod Published
pub mod Cases
