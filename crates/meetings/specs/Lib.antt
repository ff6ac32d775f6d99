pub mod ClassCells
pub mod Twins
