-- Strings and the deck function.
pub mod Strings
pub mod Closing
pub mod Deck
pub mod Incremental
