-- what the public contracts rest on
pub mod Stops
pub mod Readers
pub mod Told
pub mod Laws
pub mod Drafts
