use Rattle.std.proofs.Common.{◌∙◌, ap}
use Rattle.iigs_places.specs.Arranged.{Arrangement}
use Rattle.iigs_compact_memory.proofs.Searching.{purged_banks, trial_settled, trial_banks, trial_none, trial_fits, tried_none}
use Rattle.iigs_compact_memory.proofs.needs.fits_after.Goals as goal

pub fits_slid-requires-clause-settled : goal.fits_slid-requires-clause-settled
fits_slid-requires-clause-settled c = trial_settled c.args.places.now c.args.trial.now c.start_from.new.self c.purge_first.new.self c.purge_first.new.self c.requires.banks c.args.count c.start_from.ensures c.purge_first.ensures c.requires.settled

pub returns-then-not-fits_slid-clause-no : goal.returns-then-not-fits_slid-clause-no
returns-then-not-fits_slid-clause-no c = λ no. tried_none c.args.places.now c.args.trial.now c.start_from.new.self c.purge_first.new.self c.purge_first.new.self c.requires.banks c.args.count c.start_from.ensures c.purge_first.ensures
    c.args.want.now (c.fits_slid.ensures.no c.if-not-fits_slid.true)

pub returns-then-not-fits_slid-clause-banks : goal.returns-then-not-fits_slid-clause-banks
returns-then-not-fits_slid-clause-banks c = ap (λ (a : Arrangement). a.banks) c.fits_slid.ensures.same
    ∙ purged_banks c.args.places.now c.args.trial.now c.start_from.new.self c.purge_first.new.self c.purge_first.new.self c.requires.banks c.args.count c.start_from.ensures c.purge_first.ensures

pub slide-requires : goal.slide-requires
slide-requires c = rw c.fits_slid.ensures.same
    (trial_settled c.args.places.now c.args.trial.now c.start_from.new.self c.purge_first.new.self c.purge_first.new.self c.requires.banks c.args.count c.start_from.ensures c.purge_first.ensures c.requires.settled)

pub returns-clause-yes : goal.returns-clause-yes
returns-clause-yes c = λ yes. rw c.has_room.ensures.same
    (trial_fits c.args.places.now c.args.trial.now c.start_from.new.self c.purge_first.new.self c.slide.new.self c.requires.banks c.args.count c.start_from.ensures c.purge_first.ensures
    (rw c.fits_slid.ensures.same at c.slide.ensures.slides) (rw c.fits_slid.ensures.same at c.slide.ensures.banks) c.args.want.now (c.has_room.ensures.yes yes))

pub returns-clause-no : goal.returns-clause-no
returns-clause-no c = λ no. trial_none c.args.places.now c.args.trial.now c.start_from.new.self c.purge_first.new.self c.slide.new.self c.requires.banks c.args.count c.start_from.ensures c.purge_first.ensures
    (rw c.fits_slid.ensures.same at c.slide.ensures.slides) (rw c.fits_slid.ensures.same at c.slide.ensures.banks) c.args.want.now (c.has_room.ensures.no no)

pub returns-clause-banks : goal.returns-clause-banks
returns-clause-banks c = ap (λ (a : Arrangement). a.banks) c.has_room.ensures.same
    ∙ trial_banks c.args.places.now c.args.trial.now c.start_from.new.self c.purge_first.new.self c.slide.new.self c.requires.banks c.args.count c.start_from.ensures c.purge_first.ensures
    (rw c.fits_slid.ensures.same at c.slide.ensures.slides) (rw c.fits_slid.ensures.same at c.slide.ensures.banks)
