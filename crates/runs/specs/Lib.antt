-- What the contracts of the crate `runs` cite, and what is said of lists of runs.
pub mod Runs
pub mod Meaning
