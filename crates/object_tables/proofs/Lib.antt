pub mod SlotLemmas
pub mod StoreLemmas
pub mod WorkedRows
pub mod OrderLemmas
