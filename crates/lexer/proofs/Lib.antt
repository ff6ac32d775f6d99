pub mod TableLaws
pub mod LexedLaws
pub mod TableMeaning
pub mod TokenMeaning
pub mod LexedStep
pub mod CutLengths
pub mod ChainLaws
