-- What each function of the code answers and leaves, for storage of any content.
pub mod Codes
pub mod Knowing
pub mod Outcomes
