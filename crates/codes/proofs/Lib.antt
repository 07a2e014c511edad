-- What the functions compute, what they promise, and the theorems.
pub mod Laws
pub mod Contracts
pub mod Demands
pub mod LentDemands
