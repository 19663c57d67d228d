-- What only private functions name.
pub mod Parts
