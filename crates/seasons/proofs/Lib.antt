-- Laws and theorems that belong to no one function.
pub mod Right
pub mod Search
pub mod Examples
