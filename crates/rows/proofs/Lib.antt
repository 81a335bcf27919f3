pub mod KindNumbers
pub mod Named
