pub mod Slots
pub mod Table
pub mod Store
pub mod FileTable
pub mod OrderLaws
