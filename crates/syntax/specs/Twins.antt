-- What each function of the code answers and leaves, for storage of any content.
pub mod Standing
pub mod Placed
pub mod Ends
pub mod ReadAnswer
pub mod Heads
pub mod PartEnds
