pub mod LineCells
pub mod LineReading
pub mod Twins
