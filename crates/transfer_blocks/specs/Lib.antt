-- what the public contracts rest on
pub mod Block
pub mod Spelling
pub mod Operation
pub mod Reading
