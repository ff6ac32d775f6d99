pub mod StoredReaders
pub mod TermReaders
pub mod TextReaders
