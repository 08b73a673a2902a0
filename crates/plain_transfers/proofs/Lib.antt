pub mod Entries
pub mod Balances
pub mod Over
pub mod Paying
pub mod Cases
pub mod Runs
