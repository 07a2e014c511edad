-- The definitions that the theorems cite.
pub mod Calls
pub mod Isolation
