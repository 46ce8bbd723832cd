use Rattle.iigs_meaning.specs.laws.SlideLaws.{no_address_rises, slides_once}
use Rattle.iigs_meaning.specs.laws.SlideRoomLaws.{slid_apart, slid_settled}
use Rattle.iigs_meaning.specs.Placement.{slots_after_purges}
use Rattle.iigs_places.proofs.Stays.{apart_stays}
use Rattle.iigs_places.proofs.Puts.{gone_stays}
use Rattle.iigs_compact_memory.proofs.Settled.{settled_emptied}
use Rattle.iigs_compact_memory.proofs.law.no_address_rises.Goals as goal

pub returns-clause-none_rises : goal.returns-clause-none_rises
returns-clause-none_rises c = no_address_rises

pub returns-clause-once : goal.returns-clause-once
returns-clause-once c = slides_once

pub returns-clause-sound : goal.returns-clause-sound
returns-clause-sound c banks old new apart settled slides = (slid_apart banks old new apart settled slides, slid_settled banks old new apart settled slides)

pub returns-clause-purged : goal.returns-clause-purged
returns-clause-purged c banks slots count apart settled = (apart_stays banks slots (slots_after_purges slots count) apart (gone_stays slots count), settled_emptied banks slots count settled)
