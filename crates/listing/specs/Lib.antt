pub mod Bindings
pub mod Print
pub mod Sample
pub mod SampleDemand
pub mod Text
