-- Laws and theorems that belong to no one function.
pub mod WriteSteps
pub mod Writing
pub mod RoundTrip
pub mod OnlyRead
