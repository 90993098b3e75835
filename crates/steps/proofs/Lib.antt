pub mod StepLaws
pub mod LendingLaws
pub mod WishLaws
