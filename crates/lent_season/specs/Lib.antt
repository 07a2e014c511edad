-- What is said of calls of the crate `lent_season`.
pub mod Lent
