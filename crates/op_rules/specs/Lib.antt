-- what the public contracts rest on
pub mod Operations
pub mod Course
pub mod Replies
pub mod SameType
pub mod Worlds
pub mod CodeRule
pub mod WriteRule
pub mod SerialRule
pub mod Serial
pub mod Laws
pub mod Alike
pub mod Orders
pub mod Runs
pub mod Ledgers
