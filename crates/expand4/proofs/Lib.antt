-- Laws that belong to no one function.
pub mod Expand
pub mod Contracts
