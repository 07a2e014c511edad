-- What the contracts of the crate `seasons` cite.
pub mod Seasons
pub mod FirstDay
