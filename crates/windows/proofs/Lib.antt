-- Laws and theorems that belong to no one function.
pub mod Right
pub mod February
pub mod Dates
pub mod Examples
