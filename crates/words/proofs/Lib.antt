pub mod Ranges
pub mod Pieces
pub mod CellLaws
pub mod CuttingLaws
pub mod WordLaws
pub mod KindLaws
pub mod Encoding
pub mod CutByIndex
