pub mod Words
pub mod WordBits
