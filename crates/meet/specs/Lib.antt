-- The definitions that the contracts of the crate `meet` cite.
pub mod Twins
