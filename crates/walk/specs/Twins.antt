-- What each function of the code answers and leaves, for storage of any content.
pub mod Leaves
pub mod Making
pub mod Backing
pub mod Walking
pub mod Jobs
