pub mod CheckOpenings
pub mod ReachLaws
