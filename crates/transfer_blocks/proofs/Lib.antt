pub mod Items
pub mod OperationLaw
pub mod BlockLaw
