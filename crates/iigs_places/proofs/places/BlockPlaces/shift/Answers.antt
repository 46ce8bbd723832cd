use Rattle.iigs_places.proofs.places.BlockPlaces.shift.Goals as goal

pub invariant_of-self : goal.invariant_of-self
invariant_of-self c = (c.shift_block.ensures.arranged, c.shift_block.ensures.laid, c.self.invariant.2, c.self.invariant.3)

pub returns-clause-was : goal.returns-clause-was
returns-clause-was c = rw (← c.self.view_is) c.shift_block.ensures.was

pub returns-clause-shifted : goal.returns-clause-shifted
returns-clause-shifted c = rw (← c.self.view_is) c.shift_block.ensures.shifted

pub returns-clause-refused : goal.returns-clause-refused
returns-clause-refused c = rw (← c.self.view_is) c.shift_block.ensures.refused
