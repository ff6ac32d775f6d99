pub mod RangeTurns
pub mod RunLaws
