pub mod OneIf
pub mod PartLaws
