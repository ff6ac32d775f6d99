pub mod SampleNumbers
pub mod Told
