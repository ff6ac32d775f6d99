-- What each function of the code answers and leaves, for storage of any content.
pub mod Next
pub mod Naming
pub mod Output
pub mod Turning
pub mod Running
