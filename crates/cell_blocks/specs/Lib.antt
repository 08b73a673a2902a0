-- what the public contracts rest on
pub mod Blocks
pub mod Successors
-- what functions inside promise each other
pub mod Rows
pub mod Placing
