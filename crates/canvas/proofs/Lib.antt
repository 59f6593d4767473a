pub mod PieceLemmas
pub mod BandLawLemmas
pub mod ReadingLemmas
pub mod RowReading
pub mod PpmLawLemmas
pub mod PpmBothWays
pub mod IndexLemmas
pub mod WritingLawLemmas
pub mod PartLemmas
mod RepeatLemmas
pub mod RowLemmas
pub mod FieldLemmas
pub mod SpanLemmas
pub mod CallLemmas
pub mod CellLemmas
pub mod StripeLemmas
pub mod EachLemmas
