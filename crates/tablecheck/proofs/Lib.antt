pub mod SpanLaws
pub mod WalkingLaws
pub mod SoundnessLaws
