pub mod Parts
pub mod Putting
pub mod Profile
pub mod CoreReportLaws
pub mod Whole
