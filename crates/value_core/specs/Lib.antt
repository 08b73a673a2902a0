-- what the public contracts rest on
pub mod Leaves
pub mod Addresses
pub mod Layer
pub mod Combs
pub mod Size
pub mod Order
pub mod Everywhere
pub mod Lawful
pub mod Sound
pub mod Lasts
pub mod Sorted
pub mod Places
pub mod Kinds
pub mod Typed
pub mod Forms
pub mod Depth
pub mod Nodes
pub mod BigMaps
-- what functions inside promise each other
pub mod Padding
pub mod BytesOrder
pub mod SoundParts
pub mod Settled
pub mod Counting
pub mod Alike
-- laws that proofs cite, here and in other crates
pub mod TypeLevels
