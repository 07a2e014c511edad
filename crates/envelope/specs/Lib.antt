-- What the contracts of the crate `envelope` cite.
pub mod Layout
pub mod Read
pub mod Checks
