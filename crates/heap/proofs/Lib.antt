pub mod ContractLaws
pub mod HeapLaws
pub mod KnownLaws
pub mod FrameLaws
pub mod MoveLaws
pub mod PairLaws
pub mod NodeLaws
pub mod PartLaws
