-- what the public contract rests on
pub mod Numbers
pub mod Commands
pub mod Statuses
pub mod Report
pub mod Answer
pub mod Verdict
pub mod Validating
pub mod Faulty
pub mod Checking
pub mod Genesis
pub mod Showing
pub mod Meaning
pub mod Seen
pub mod Inputs
pub mod Runs
pub mod Completeness
-- what functions inside promise each other
pub mod Judging
pub mod Inside
