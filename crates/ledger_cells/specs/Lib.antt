-- what the public contracts rest on
pub mod LedgerCells
pub mod Placing
-- what functions inside promise each other
pub mod Overlay
pub mod Walking
pub mod Seeking
pub mod Gathering
