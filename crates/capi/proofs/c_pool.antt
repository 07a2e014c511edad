-- What the clauses of the exported functions for pools are.
pub mod Contracts
