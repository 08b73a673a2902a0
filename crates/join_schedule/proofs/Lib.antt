pub mod Rows
pub mod Least
pub mod Noted
pub mod Blocked
pub mod Soonest
pub mod Told
pub mod Deciding
