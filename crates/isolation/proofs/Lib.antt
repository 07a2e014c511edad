-- The theorems, and what they rest on.
pub mod Contracts
pub mod Alone
pub mod Exist
pub mod Own
pub mod Isolation
pub mod Decided
