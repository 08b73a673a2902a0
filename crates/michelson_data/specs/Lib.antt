-- what the public contracts rest on
pub mod Form
pub mod Replaces
-- what functions inside promise each other
pub mod Tells
pub mod Settled
pub mod Operands
pub mod AgainstZero
pub mod Pairing
pub mod Sized
