pub mod Items
pub mod Passed
pub mod OperationLaw
pub mod ReceiptLaw
pub mod BlockLaw
pub mod Written
