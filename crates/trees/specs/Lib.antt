pub mod Nodes
pub mod Listing
