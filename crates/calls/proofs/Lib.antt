pub mod ArgumentTurns
pub mod ArgumentLaws
pub mod CallLaws
pub mod CallLeads
