pub mod Coverage
pub mod Sheet
pub mod Tables
pub mod Files
pub mod Longest
