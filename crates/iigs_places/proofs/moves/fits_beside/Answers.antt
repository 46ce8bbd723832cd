use Rattle.iigs_places.proofs.moves.fits_beside.Goals as goal

pub returns-then-is_open-clause-yes : goal.returns-then-is_open-clause-yes
returns-then-is_open-clause-yes c = λ yes. (c.is_open.ensures.yes c.if-is_open.true, c.lies_beside.ensures.yes yes)
