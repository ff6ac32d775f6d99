pub mod RunAnswer
pub mod RunDemand
pub mod ListAnswer
pub mod ListDemand
pub mod Twins
