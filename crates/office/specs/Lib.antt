-- The definitions that the contracts and the theorems cite.
pub mod Table
pub mod Exactly
