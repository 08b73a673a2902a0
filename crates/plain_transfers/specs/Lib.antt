-- what the public contracts rest on
pub mod Serial
pub mod Run
-- what functions inside promise each other
pub mod Changes
