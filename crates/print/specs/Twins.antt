-- What each function of the code answers and leaves, for storage of any content.
pub mod ListingText
pub mod Names
pub mod RanText
pub mod ListedText
