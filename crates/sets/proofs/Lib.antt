pub mod Bools
pub mod Bits
pub mod NumberSets
