pub mod AnswerNumbers
pub mod Faults
pub mod RefusalNumbers
