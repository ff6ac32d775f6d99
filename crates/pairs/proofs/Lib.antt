pub mod NameLaws
pub mod LookLaws
pub mod TakeLaws
pub mod SplitLaws
pub mod BranchLaws
