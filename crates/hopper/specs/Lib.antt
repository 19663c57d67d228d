-- The definitions of this crate.
pub mod Faults
pub mod Refusing
pub mod Texts
pub mod Boards
pub mod Making
pub mod Any
