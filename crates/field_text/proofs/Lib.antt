pub mod Days
pub mod Moments
pub mod Cuts
pub mod Metres
pub mod Texts
pub mod Solid
mod Examples
pub mod FewDigits
pub mod Decimals
