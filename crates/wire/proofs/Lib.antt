pub mod Back
pub mod Refusing
