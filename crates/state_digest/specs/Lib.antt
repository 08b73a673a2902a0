-- what the public contracts rest on
pub mod Digest
pub mod Digests
-- what functions inside promise each other
pub mod Bounds
pub mod Touched
pub mod Texts
pub mod Shelving
