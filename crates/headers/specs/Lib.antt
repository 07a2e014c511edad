-- What the contracts of the crate `headers` cite.
pub mod Fits
