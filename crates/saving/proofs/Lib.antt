pub mod OlderTurns
pub mod RecordLaws
pub mod HoldingLaws
pub mod SavedLaws
pub mod BackLaws
