-- what functions inside promise each other
pub mod Changed
pub mod Forest
pub mod Nodes
pub mod Roots
