pub mod Fields
pub mod Kinds
pub mod ItemRule
pub mod Eights
pub mod Keys
