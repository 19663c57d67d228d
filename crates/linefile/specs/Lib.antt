pub mod Tabled
pub mod Held
pub mod Texts
