pub mod PageWords
pub mod Runs
pub mod Running
pub mod Walk
pub mod Inner
