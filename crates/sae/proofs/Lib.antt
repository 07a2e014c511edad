-- Laws that belong to no one function, and what the program's functions promise.
pub mod Calls
pub mod Contracts
pub mod Demands
