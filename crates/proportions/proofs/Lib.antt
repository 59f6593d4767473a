pub mod FittingLemmas
