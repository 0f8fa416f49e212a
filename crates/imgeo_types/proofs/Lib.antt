pub mod Words
pub mod RightItems
mod Examples
mod ExampleItems
mod ByWords
