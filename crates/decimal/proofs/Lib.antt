-- Laws that belong to no one function.
pub mod Laws
pub mod Buffers
pub mod Steps
pub mod Reading
