-- The outside of the program as contracts see it, in reading order.

-- what the public contracts rest on
pub mod Outside
pub mod Shelf
pub mod Buffer
pub mod Adapters
pub mod Cursors
-- what functions inside promise each other
pub mod Slots
