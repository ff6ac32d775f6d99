pub mod Twins
pub mod SampleDemand
