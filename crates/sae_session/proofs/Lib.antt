-- The theorems.
pub mod Contracts
pub mod Demands
