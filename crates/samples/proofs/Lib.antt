pub mod Turns
pub mod FillTurns
pub mod FillMeaning
pub mod NumeralLaws
pub mod NumberLaws
pub mod FreeLaws
pub mod NameLaws
