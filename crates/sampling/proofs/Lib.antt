pub mod LineTurns
pub mod SampleMeaning
