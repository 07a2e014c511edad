-- Laws that belong to no one function.
pub mod Bit
pub mod Lists
