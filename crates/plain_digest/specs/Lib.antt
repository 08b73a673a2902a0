-- what the public contracts rest on
pub mod Digest
-- what functions inside promise each other
pub mod Buckets
