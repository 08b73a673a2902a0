-- what the public contracts rest on
pub mod Ledger
pub mod StateCells
pub mod Scripts
pub mod Storages
pub mod Building
pub mod Reasons
pub mod Spelling
pub mod Found
pub mod BookReading
pub mod Reading
-- what functions inside promise each other
pub mod Inside
