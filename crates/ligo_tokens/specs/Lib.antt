-- what the public contracts rest on: the token in front, and which bytes are laid out as which tokens
pub mod Lexing
pub mod Layout
-- what functions inside promise each other: how gaps are gone through
pub mod Gaps
