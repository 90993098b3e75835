pub mod Records
pub mod Kinds
pub mod Input
pub mod Lines
