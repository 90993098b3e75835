pub mod KeepLaws
pub mod RecordLaws
