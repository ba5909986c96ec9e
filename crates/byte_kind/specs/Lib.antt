pub mod Class
pub mod Language
pub mod Reading
pub mod Law
pub mod Sets
