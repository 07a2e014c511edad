-- The definitions that the contracts and the theorems cite.
pub mod Lent
