pub mod SinkLaws
pub mod DigitLaws
pub mod SymbolLaws
pub mod TreeTurns
