mod DescriptionLemmas
pub mod CountingLemmas
pub mod FaultCountLemmas
pub mod TextLemmas
pub mod PlayingLemmas
