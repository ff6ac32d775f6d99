-- What each function of the code answers and leaves, for storage of any content.
pub mod LineCells
pub mod SampleText
pub mod LineText
pub mod OutcomeText
