-- What the contracts of the crate `capi` cite beside those of the crates below.
pub mod Found
