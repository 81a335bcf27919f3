pub mod Travels
pub mod Room
