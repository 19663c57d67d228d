-- The definitions of this crate.
pub mod Told
pub mod Lines
pub mod Sheets
pub mod Shifts
