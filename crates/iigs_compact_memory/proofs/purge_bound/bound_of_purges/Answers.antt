use Rattle.std.proofs.Common.{arith}
use Rattle.iigs_compact_memory.proofs.Bytes.{none_large}
use Rattle.iigs_compact_memory.proofs.Making.{none_past}
use Rattle.iigs_compact_memory.proofs.purge_bound.bound_of_purges.Goals as goal

pub returns-then-not-may_fit-clause-none : goal.returns-then-not-may_fit-clause-none
returns-then-not-may_fit-clause-none c = none_past c.args.places.now.banks c.args.places.now.slots c.args.want.now c.purgeable-enough.result c.purgeable-enough.ensures.value
    (λ count less. c.may_fit.ensures.no c.if-not-may_fit.true count (omega (arith, less)))

pub returns-then-most_room-want-clause-none : goal.returns-then-most_room-want-clause-none
returns-then-most_room-want-clause-none c = none_large c.args.places.now.banks c.args.places.now.slots c.args.want.now c.most_room.result c.know_arranged.ensures c.requires.want.some c.most_room.ensures c.if-most_room-want.true
