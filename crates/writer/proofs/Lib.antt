pub mod TextTurns
pub mod FilledLaws
