-- what the public contracts rest on
pub mod Joins
pub mod Cover
-- what functions inside promise each other
pub mod Sets
pub mod Touchers
