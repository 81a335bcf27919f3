pub mod Decimal
pub mod Width
pub mod Fields
pub mod Digits
pub mod InOrder
pub mod Filled
