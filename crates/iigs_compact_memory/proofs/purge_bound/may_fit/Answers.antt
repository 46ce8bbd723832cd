use Rattle.std.proofs.Common.{ap, ◌∙◌}
use Rattle.iigs_places.specs.Arranged.{Arrangement}
use Rattle.iigs_compact_memory.proofs.Searching.{purged_banks, purged_none}
use Rattle.iigs_compact_memory.proofs.purge_bound.may_fit.Goals as goal

pub returns-clause-no : goal.returns-clause-no
returns-clause-no c = λ no. purged_none c.args.places.now c.args.trial.now c.start_from.new.self c.purge_first.new.self c.purge_first.new.self c.requires.banks c.args.count c.start_from.ensures c.purge_first.ensures
    c.args.want.now c.know_arranged.ensures.sound c.requires.settled (c.may_fit.ensures.no no)

pub returns-clause-banks : goal.returns-clause-banks
returns-clause-banks c = ap (λ (a : Arrangement). a.banks) c.may_fit.ensures.same
    ∙ purged_banks c.args.places.now c.args.trial.now c.start_from.new.self c.purge_first.new.self c.purge_first.new.self c.requires.banks c.args.count c.start_from.ensures c.purge_first.ensures
