pub mod Places
pub mod Rising
mod ExampleCodes
