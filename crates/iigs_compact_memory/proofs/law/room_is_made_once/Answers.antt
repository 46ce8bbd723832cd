use Rattle.iigs_meaning.specs.laws.SlideRoomLaws.{purges_or_slides_once, no_room_by_slides, lacks_room_by_slides}
use Rattle.iigs_compact_memory.proofs.law.room_is_made_once.Goals as goal

pub returns-clause-once : goal.returns-clause-once
returns-clause-once c = purges_or_slides_once

pub returns-clause-nowhere : goal.returns-clause-nowhere
returns-clause-nowhere c banks slots want = (no_room_by_slides banks slots want, lacks_room_by_slides banks slots want)
