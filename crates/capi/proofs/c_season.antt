-- What the clauses of the exported functions for issue seasons are.
pub mod Contracts
