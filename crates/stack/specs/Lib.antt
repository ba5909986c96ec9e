pub mod Lent
pub mod Stacked
