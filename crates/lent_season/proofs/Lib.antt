-- What the clauses of the functions over lent records are, and lists of calls.
pub mod Contracts
pub mod Calls
