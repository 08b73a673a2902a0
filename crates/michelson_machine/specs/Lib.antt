-- what the public contracts rest on
pub mod Resume
pub mod Ends
pub mod Outcomes
-- what functions inside promise each other
pub mod Made
pub mod Steps
