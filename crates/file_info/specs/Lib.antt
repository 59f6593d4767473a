pub mod Description
pub mod Counting
pub mod FaultCounts
pub mod Info
pub mod InfoReport
pub mod JoinedText
pub mod Paper
pub mod Totals
