-- Laws that belong to no one function.
pub mod Compress
pub mod Contracts
