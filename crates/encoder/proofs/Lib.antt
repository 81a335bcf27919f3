pub mod Sides
pub mod Readings
pub mod Bounds
pub mod TrueTravel
