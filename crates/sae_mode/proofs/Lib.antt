-- Theorems of SAE and of lists of old letters.
pub mod Papers
pub mod Edges
pub mod Start
pub mod Letters
pub mod Lists
pub mod Boxes
pub mod Demands
