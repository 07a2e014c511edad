-- Laws that belong to no one function.
pub mod Buffers
pub mod History
pub mod Calls
pub mod Stream
