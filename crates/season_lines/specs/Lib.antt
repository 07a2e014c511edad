-- What the contracts of the crate `season_lines` cite, and what is said of lists of lines.
pub mod Lines
pub mod History
pub mod FirstDay
pub mod Numbers
