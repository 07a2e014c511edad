-- The definitions that the contracts cite.
pub mod Rolling
pub mod Edges
