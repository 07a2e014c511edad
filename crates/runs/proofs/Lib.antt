-- Laws and theorems that belong to no one function.
pub mod Pair
pub mod Joining
pub mod Fewest
