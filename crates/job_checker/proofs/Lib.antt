pub mod JobOpenings
