use Rattle.iigs_meaning.specs.laws.PlacementLaws.{goes_once, purges_once, no_room, lacks_room}
use Rattle.iigs_memory.proofs.law.wants_go_to_one_address.Goals as goal

pub returns : goal.returns
returns c = record {
  address = goes_once;
  once = purges_once;
  nowhere = λ banks slots want. (no_room banks slots want, lacks_room banks slots want);
}
