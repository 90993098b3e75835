pub mod LeafLaws
pub mod EntryLaws
pub mod Theorems
