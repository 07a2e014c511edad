-- Laws that belong to no one function, and the clauses of the two calls.
pub mod Laws
pub mod Contracts
