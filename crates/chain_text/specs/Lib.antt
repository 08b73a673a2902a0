-- what the public contracts rest on
pub mod Lines
pub mod Fields
pub mod Numbers
pub mod Addresses
pub mod Groups
pub mod Scripts
pub mod Standing
pub mod Genesis
pub mod Heads
pub mod Reading
pub mod PrintedLines
pub mod Printed
-- what functions inside promise each other
pub mod Inside
pub mod Rows
