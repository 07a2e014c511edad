-- What the clauses are, and the theorems.
pub mod Contracts
pub mod Demands
