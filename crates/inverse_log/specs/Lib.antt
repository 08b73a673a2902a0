-- what the public contracts rest on
pub mod Logs
pub mod Ends
-- what functions inside promise each other
pub mod Undoing
