-- What the clauses of the functions over a lent pool are, and lists of calls.
pub mod Contracts
pub mod Calls
