-- Promises of inner functions, and the descriptions that follow the code. What the three calls promise is said without them, but for the test `lawful`, which is `Lawful` (statement: `LawfulExactly`).
pub mod Spans
pub mod Taking
pub mod Walk
pub mod Search
pub mod Places
pub mod Standing
pub mod Shrinking
pub mod Holding
