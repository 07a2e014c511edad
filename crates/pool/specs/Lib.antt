-- What the contracts of the crate `pool` cite, and what is said of pools.
pub mod Pool
pub mod Good
