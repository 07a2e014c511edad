-- The definitions that the contracts cite.
pub mod State
pub mod Bytes
