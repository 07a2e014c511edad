-- Laws of strings and of the deck function.
pub mod ClosingBytes
pub mod Strings
pub mod Deck
pub mod Incremental
pub mod Output
