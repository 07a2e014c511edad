-- The calendar's rules, and what the contracts of the crate `days` cite.
pub mod Calendar
pub mod Days
