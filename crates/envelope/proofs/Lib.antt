-- Laws and theorems that belong to no one function.
pub mod Layouts
pub mod Headers
pub mod Reading
pub mod PartSteps
pub mod Spelling
pub mod Example
