pub mod Output
pub mod Given
