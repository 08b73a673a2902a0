-- what the public contracts rest on
pub mod Books
pub mod Adding
pub mod Successors
pub mod Entries
pub mod Fits
pub mod Ownership
-- what functions inside promise each other
pub mod Listing
