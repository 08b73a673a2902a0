pub mod Unique
pub mod DeclLaws
pub mod ProgramLaws
pub mod ImageLaws
pub mod PatternLaws
