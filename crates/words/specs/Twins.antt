-- What each function of the code answers and leaves, for storage of any content.
pub mod Marks
pub mod Cutting
pub mod Judged
