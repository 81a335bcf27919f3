pub mod Rowed
pub mod Stored
pub mod Stepped
