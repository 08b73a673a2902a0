-- what the public contracts rest on
pub mod Block
pub mod Spelling
pub mod Format
pub mod Fields
pub mod Operation
pub mod Receipts
pub mod Reading
