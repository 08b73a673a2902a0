-- what the public contracts rest on
pub mod Ledger
pub mod Spelling
pub mod Reading
-- what functions inside promise each other
pub mod Holdings
