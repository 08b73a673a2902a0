pub mod Keys
pub mod Order
pub mod Cuts
pub mod Renewing
pub mod Gathering
pub mod Passing
pub mod Writable
pub mod Kept
