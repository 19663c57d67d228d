-- Marks that are guessed and checked, moves by their targets, and rows made from the one before.
pub mod Marks
pub mod Changing
pub mod Moves
pub mod Rows
