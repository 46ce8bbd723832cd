-- How the loader makes room for its blocks.
use Rattle.iigs_meaning.specs.Puts.{MakesRoom}
use Rattle.iigs_meaning.specs.Slide.{PurgesOrSlides}

-- by purges, and where these make none, by a slide of the movable blocks
abbrev pub RoomRule : MakesRoom
RoomRule = PurgesOrSlides
