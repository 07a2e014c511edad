-- What the clauses of the exported function for codes are.
pub mod Contracts
