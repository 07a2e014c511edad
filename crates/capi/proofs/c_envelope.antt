-- What the clauses of the exported functions over envelopes are.
pub mod Contracts
