-- what the public contracts rest on
pub mod Forms
pub mod Weight
pub mod Entries
pub mod Operands
pub mod Brackets
pub mod Printable
pub mod Lawful
pub mod WrittenTypes
pub mod Typing
pub mod TypedScript
pub mod FirstFault
pub mod Inversion
-- lemmas on these, for proofs here and in other crates
pub mod Levels
pub mod Inside
-- what functions inside promise each other
pub mod Shown
