pub mod BranchTurns
pub mod WalkTurns
pub mod JobTurns
pub mod TurnLaws
pub mod WalkLaws
pub mod JobLaws
