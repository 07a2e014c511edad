-- Farfalle-SAE, the mode of the first version's letters: the mode, the paper's algorithm, and lists of old letters.
pub mod Sae
pub mod PaperSae
pub mod Edges
pub mod Letters
pub mod Box
pub mod Promises
