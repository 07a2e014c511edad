-- What the clauses of the exported functions over the office's table are.
pub mod Contracts
