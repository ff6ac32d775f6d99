pub mod Expression
pub mod Substitution
pub mod Restriction
pub mod Contraction
pub mod Class
pub mod Split
pub mod Intersection
