-- Promises of inner functions of the pool, and the faster descriptions that they use. What the pool's calls promise is said without them.
pub mod Around
pub mod Marks
pub mod Passes
pub mod Taking
