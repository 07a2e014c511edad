-- Laws that belong to no one function.
pub mod Lanes
pub mod Bytes
pub mod Facts
