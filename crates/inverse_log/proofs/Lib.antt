pub mod EndLaws
pub mod NoCells
