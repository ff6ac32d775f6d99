pub mod Shown
pub mod Taken
pub mod Whole
