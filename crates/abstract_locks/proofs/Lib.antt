pub mod ModeLemmas
pub mod RowLemmas
pub mod RowAnswers
pub mod TableLemmas
pub mod ListLemmas
