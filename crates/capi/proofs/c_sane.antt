-- What the clauses of the exported functions over a lent record of SANE are.
pub mod Contracts
