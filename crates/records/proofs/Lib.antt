pub mod RecordLaws
pub mod InputLaws
pub mod LineLaws
