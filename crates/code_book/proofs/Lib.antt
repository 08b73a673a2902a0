pub mod Rows
pub mod RowSteps
pub mod Keeping
pub mod Reasons
pub mod Cuts
pub mod MapPlaces
pub mod Owning
