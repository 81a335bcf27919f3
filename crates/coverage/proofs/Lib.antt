pub mod Monotone
pub mod Extreme
pub mod WitnessFlips
pub mod Theorems
