-- What the contracts of the crate `issue_line` cite.
pub mod Layout
pub mod Read
