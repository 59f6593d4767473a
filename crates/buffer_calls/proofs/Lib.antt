pub mod EndLemmas
pub mod FaultLemmas
pub mod PlayLemmas
pub mod SampleLemmas
pub mod SplitLemmas
