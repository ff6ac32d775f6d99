-- What each function of the code answers and leaves, for storage of any content.
pub mod Code
pub mod Linking
pub mod Linked
pub mod Places
