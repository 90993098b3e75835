pub mod InputLaws
pub mod RunLaws
