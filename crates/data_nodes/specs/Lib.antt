-- what the public contracts rest on
pub mod Nodes
pub mod Data
pub mod Storage
pub mod Readers
pub mod Faults
pub mod FirstFault
pub mod Told
pub mod Printed
-- what functions inside promise each other
pub mod Printing
pub mod Parts
