pub mod Kinds
pub mod Limits
pub mod Format
pub mod WellFormed
pub mod Games
pub mod Checks
pub mod Laws
pub mod Inner
