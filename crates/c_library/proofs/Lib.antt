pub mod Described
pub mod Filled
pub mod RoomLaws
