-- What the contracts of the crate `lent_pool` cite.
pub mod Lent
