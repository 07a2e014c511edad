-- Laws and theorems that belong to no one function.
pub mod Rules
pub mod Next
pub mod Examples
