-- Laws and theorems that belong to no one function.
pub mod Steps
pub mod Pricing
pub mod History
pub mod Whole
pub mod Reached
pub mod Examples
