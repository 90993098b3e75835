pub mod MaskLaws
pub mod ControlLaws
