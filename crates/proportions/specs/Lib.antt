pub mod Fitting
pub mod FittingLaws
pub mod Rounding
