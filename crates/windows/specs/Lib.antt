-- The rules for windows, and what the contracts of the crate `windows` cite.
pub mod Windows
pub mod Computed
