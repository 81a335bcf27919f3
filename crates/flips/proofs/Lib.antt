pub mod Over
pub mod Decide
