pub mod Windows
pub mod twins
