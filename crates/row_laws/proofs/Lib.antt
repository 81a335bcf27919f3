pub mod Occurring
pub mod RoundTrip
pub mod Sound
pub mod Sized
pub mod Taken
pub mod Given
