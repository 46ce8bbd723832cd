pub mod PlacementLaws
pub mod PurgeLaws
pub mod SlideLaws
pub mod Left
pub mod SlideRoomLaws
