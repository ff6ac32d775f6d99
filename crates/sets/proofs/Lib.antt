pub mod Turns
pub mod CellLaws
pub mod FillLaws
pub mod CounterLaws
pub mod ContractionLaws
