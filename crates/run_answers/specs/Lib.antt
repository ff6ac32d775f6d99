pub mod RunNumbers
