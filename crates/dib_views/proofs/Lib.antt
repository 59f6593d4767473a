pub mod PictureLemmas
pub mod WorkedDibs
pub mod WorkedFaults
