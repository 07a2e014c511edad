-- What the contracts of the crate `envelope_write` cite.
pub mod Write
pub mod Checks
