use Rattle.std.proofs.Common.{arith}
use Rattle.iigs_compact_memory.specs.Needs.{NoneAfter}
use Rattle.iigs_compact_memory.proofs.Making.{none_past}
use Rattle.iigs_compact_memory.proofs.Searching.{needs, none_more}
use Rattle.iigs_compact_memory.proofs.needs.least_purges.Goals as goal

pub returns-then-fits_after-clause-needs : goal.returns-then-fits_after-clause-needs
returns-then-fits_after-clause-needs c = needs c.args.places.now.banks c.args.places.now.slots c.args.want.now c.loop-count.count c.fits_after.new.trial.slots (c.fits_after.ensures.yes c.if-fits_after.true) c.loop-count.invariant.none

pub loop-count-preserved : goal.loop-count-preserved
loop-count-preserved c = record {
  none = none_more (NoneAfter c.args.places.now.banks c.args.places.now.slots c.args.want.now) c.loop-count.count c.loop-count.invariant.none (c.fits_after.ensures.no c.if-fits_after.false);
  banks = c.fits_after.ensures.banks;
}

pub returns-clause-needs : goal.returns-clause-needs
returns-clause-needs c = none_past c.args.places.now.banks c.args.places.now.slots c.args.want.now c.purgeable-most.result c.purgeable-most.ensures.value
    (λ count less. c.loop-count.invariant.none count (omega (arith, less, c.loop-count-test.false)))
