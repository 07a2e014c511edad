-- Laws that belong to no one function, and the theorems.
pub mod Laws
pub mod Search
pub mod Lowest
pub mod Days
pub mod Contracts
pub mod Exactly
pub mod NewTable
