pub mod ListBack
pub mod NumberLaws
pub mod RunBack
