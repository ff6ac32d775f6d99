pub mod ReadLaws
pub mod Reading
