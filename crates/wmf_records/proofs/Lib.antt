pub mod ExtentLemmas
pub mod WorkedRows
pub mod WorkedKinds
pub mod WorkedBitmaps
pub mod NoteLemmas
