pub mod Operators
pub mod Language
pub mod Sets
