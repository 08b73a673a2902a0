-- what the public contracts rest on
pub mod Kinds
pub mod Classes
pub mod Rules
pub mod Depth
pub mod Said
pub mod TreeNodes
pub mod TypeTrees
pub mod AtomTrees
pub mod ExprTrees
pub mod ProgramTrees
pub mod TypeGrammar
pub mod AtomGrammar
pub mod OperatorGrammar
pub mod ExprGrammar
pub mod Grammar
pub mod FreeGrammar
pub mod Faults
-- what functions inside promise each other
pub mod Readers
pub mod Phrases
pub mod TypeReading
pub mod AtomReading
pub mod OperatorReading
pub mod ExprReading
pub mod Reading
pub mod Levels
pub mod Verdict
