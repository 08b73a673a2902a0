-- what the public contract rests on
pub mod Told
-- what functions inside promise each other
pub mod Extents
pub mod Tables
pub mod Rows
pub mod Matching
pub mod Stacks
pub mod Writing
pub mod Numbered
pub mod Lines
pub mod FirstKinds
pub mod TypeTests
pub mod Opened
pub mod Closed
