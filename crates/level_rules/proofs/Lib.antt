pub mod PairOrder
pub mod Spoken
pub mod Named
pub mod Newest
pub mod Searched
