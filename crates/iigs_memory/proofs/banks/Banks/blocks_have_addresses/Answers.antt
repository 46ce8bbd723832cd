use Rattle.iigs_places.proofs.Extents.{holds_below}
use Rattle.iigs_memory.proofs.banks.Banks.blocks_have_addresses.Goals as goal

pub returns : goal.returns
returns c = rw (← c.self.view_is) (holds_below c.self.inside.places.slots c.know_arranged.ensures.bounded)
