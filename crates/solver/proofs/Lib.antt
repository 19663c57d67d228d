-- The proofs of this crate that others cite.
pub mod Entries
pub mod Choosing
pub mod Rounds
pub mod Attraction
pub mod Settled
pub mod Passing
pub mod Best
pub mod Unfolds
pub mod Marks
pub mod Serving
pub mod RowByRow
pub mod Following
pub mod Remaking
pub mod ByChange
pub mod Refreshing
