pub mod ValueTurns
pub mod ValueLaws
pub mod RoomLaws
pub mod StateLaws
pub mod SizeLaws
pub mod PairLaws
pub mod BodyLaws
pub mod ContractionLaws
