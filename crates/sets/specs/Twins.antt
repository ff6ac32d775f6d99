-- What each function of the code answers and leaves, for storage of any content.
pub mod Copying
pub mod Fill
pub mod Counting
pub mod Contracting
