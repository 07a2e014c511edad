-- Laws that belong to no one function, and the theorems.
pub mod Calls
pub mod Contracts
pub mod Demands
