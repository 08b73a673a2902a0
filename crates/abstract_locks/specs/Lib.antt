-- what the public contracts rest on
pub mod Holders
pub mod Tables
pub mod Laws
-- what functions inside promise each other
pub mod Rows
pub mod Lists
