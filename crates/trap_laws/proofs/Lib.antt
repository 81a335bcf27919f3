pub mod KindTraps
pub mod Climb
pub mod Count
pub mod Grow
pub mod Laid
pub mod Induction
pub mod Child
