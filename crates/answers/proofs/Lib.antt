pub mod Deciding
pub mod Rooms
pub mod Placements
pub mod Replying
pub mod UserReplies
pub mod Locating
pub mod ReplyCauses
pub mod CommandReplies
