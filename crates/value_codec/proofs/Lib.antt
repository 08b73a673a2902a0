pub mod Spelt
pub mod Numbers
pub mod Turns
pub mod Levels
pub mod Ascending
pub mod Rows
pub mod ValueLaws
