pub mod NoteLemmas
pub mod NoteSetLemmas
pub mod FramedLemmas
pub mod ContentLemmas
pub mod PrefixLemmas
pub mod NumberLemmas
pub mod TableLemmas
