-- what the public contracts rest on: the bytes of tokens, the grammar of tokens, faults, and printing
pub mod Kinds
pub mod Literals
pub mod Layout
pub mod Grammar
pub mod Text
pub mod Cuts
pub mod Faults
pub mod Told
pub mod Printed
pub mod Lawful
pub mod Again
-- what functions inside promise each other: how bytes are gone through, and what each token does
pub mod Gaps
pub mod Lexing
pub mod Reading
pub mod Fits
pub mod Printing
