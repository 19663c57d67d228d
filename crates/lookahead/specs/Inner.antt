-- What an outlook is about, what it remembers, and what one move does in it.
pub mod Remembering
pub mod Asking
