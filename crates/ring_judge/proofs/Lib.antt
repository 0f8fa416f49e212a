pub mod LineFronts
pub mod SoFar
pub mod OneVerdict
