pub mod RestrictionLaws
pub mod RestrictionTurns
