-- What each function of the code answers and leaves, for storage of any content.
pub mod Differing
pub mod Classes
pub mod Binding
pub mod Unifying
pub mod LineCells
