pub mod Restricting
