pub mod Blocks
pub mod FrameWords
pub mod Choice
pub mod Owners
pub mod Calls
pub mod Statements
pub mod Inner
