pub mod BothTurns
pub mod BothRead
