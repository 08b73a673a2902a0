-- what the public contracts rest on
pub mod Types
pub mod Code
pub mod Entries
pub mod Script
pub mod Names
pub mod FaultyNodes
pub mod FaultySections
pub mod PushedFault
pub mod Roles
pub mod FirstFault
pub mod Answers
pub mod Printed
pub mod Lines
-- what functions inside promise each other
pub mod TypeFaults
pub mod CodeFaults
pub mod ScriptFaults
pub mod Printing
pub mod Makers
pub mod Operands
pub mod Returned
