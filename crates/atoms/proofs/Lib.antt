pub mod BindingLaws
pub mod BranchLaws
pub mod AtomLaws
pub mod TakeLaws
