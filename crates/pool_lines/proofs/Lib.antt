-- Laws and theorems that belong to no one function.
pub mod Steps
pub mod Lists
pub mod Adding
pub mod History
