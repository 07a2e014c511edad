-- What the contracts of the crate `charges` cite, and what is said of lists of lines.
pub mod Charges
pub mod History
