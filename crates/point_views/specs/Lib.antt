pub mod Numbers
pub mod NumberLaws
pub mod Points
pub mod Counts
pub mod Split
pub mod PassedOver
pub mod PartedPoints
pub mod Polys
