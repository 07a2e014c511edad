-- What the contracts of the crate `sizes` cite.
pub mod Sizes
