pub mod Ascending
pub mod CellOrders
pub mod Cuts
pub mod Both
pub mod Changes
pub mod Firsts
