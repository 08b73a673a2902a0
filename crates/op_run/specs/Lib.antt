-- what the public contracts rest on
pub mod Phases
pub mod States
pub mod Sound
pub mod Safe
pub mod Steps
pub mod Codes
pub mod Resumed
pub mod Follows
pub mod Turns
pub mod Promise
pub mod OnStores
-- what functions inside promise each other
pub mod SerialTurns
