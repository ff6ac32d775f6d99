pub mod FollowTurns
pub mod RecordLaws
pub mod RoomLaws
pub mod ReplayLaws
