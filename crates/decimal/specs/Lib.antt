-- What the contracts of the crate `decimal` cite.
pub mod Decimal
pub mod Buffer
