pub mod Ascending
pub mod Changing
pub mod HoldingLemmas
pub mod FieldLaws
pub mod FileLaws
