-- What the clauses of the exported functions over a lent record are.
pub mod Contracts
