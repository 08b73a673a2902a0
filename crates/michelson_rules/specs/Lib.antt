-- what the public contracts rest on
pub mod World
pub mod Runs
pub mod Answers
pub mod Numbers
pub mod Collections
pub mod Plain
pub mod BigMaps
pub mod Versions
pub mod Bodies
pub mod Rules
pub mod Spent
pub mod Causes
pub mod Metered
pub mod Lasting
pub mod EachRun
pub mod Returned
pub mod TypedStacks
pub mod DataOperands
pub mod TestedSizes
pub mod TypedValues
pub mod TypedRuns
pub mod TypedScripts
-- what proofs here and in other crates go by
pub mod TypedLevels
