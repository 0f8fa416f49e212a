pub mod Codes
pub mod Catalogue
