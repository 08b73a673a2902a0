-- what the public contracts rest on
pub mod Modes
pub mod Cells
pub mod Accounts
pub mod Footprints
pub mod Spelling
pub mod Stops
pub mod Reading
pub mod Contents
pub mod Effects
pub mod Conditions
pub mod Stores
pub mod Supply
pub mod Laws
-- what functions inside promise each other
pub mod CellOrder
