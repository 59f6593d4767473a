pub mod FileLemmas
pub mod OpeningLemmas
pub mod WorkedRows
