-- Laws and theorems that belong to no one function.
pub mod Steps
pub mod Adding
pub mod History
pub mod FirstDay
pub mod Digits
pub mod Numbers
