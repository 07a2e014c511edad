-- What the clauses of the exported function for charging are.
pub mod Contracts
