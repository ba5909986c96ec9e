pub mod Refusals
pub mod Atoms
pub mod Language
pub mod Sets
