-- What the clauses of the exported functions over a lent record of SAE are.
pub mod Contracts
