pub mod Headings
pub mod ListEnding
pub mod ListNumbers
