pub mod TrailLaws
pub mod ReachLaws
