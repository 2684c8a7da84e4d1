pub mod RoomTaken
