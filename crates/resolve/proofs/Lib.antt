pub mod StartSound
pub mod BeginPlace
pub mod ListMeaning
pub mod ListDemand
pub mod RunMeaning
pub mod RunDemand
pub mod WrongTools
pub mod AnswerNumbers
