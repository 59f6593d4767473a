pub mod StepLemmas
pub mod AfterLemmas
pub mod ClearedLemmas
pub mod WholeSurfaceLemmas
pub mod BandLemmas
pub mod BandTextLemmas
pub mod ClearedBandLemmas
pub mod ReadyLemmas
pub mod WriterLemmas
mod CopyLemmas
mod BandRowLemmas
