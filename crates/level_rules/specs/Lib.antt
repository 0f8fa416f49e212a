pub mod Levels
pub mod Pairs
