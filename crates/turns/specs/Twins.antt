-- What each function of the code answers and leaves, for storage of any content.
pub mod Finding
pub mod States
pub mod Choices
