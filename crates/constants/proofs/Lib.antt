pub mod LayTurns
pub mod ConstantLaws
