pub mod Cells
pub mod Twins
