use Rattle.std.proofs.Common.{◌∙◌, sym, arith}
use Rattle.iigs_compact_memory.proofs.Carrying.{looked_up, stays_is, counts_none, counts_one, carried_shift}
use Rattle.iigs_compact_memory.proofs.Making.{kept_same}
use Rattle.iigs_compact_memory.proofs.carry.carry.Goals as goal

pub returns-then-to-at-clause-carried : goal.returns-then-to-at-clause-carried
returns-then-to-at-clause-carried c = stays_is c.args.banks.now.banks c.args.banks.now.slots c.args.plan.now.slots c.args.h c.args.at c.requires.can (sym (looked_up c.args.banks.now.banks c.args.banks.now.slots c.args.plan.now.slots c.args.h c.args.at c.requires.can c.in-Ok.block c.in-Ok.ensures c.unwrap_or-to.result c.unwrap_or-to.ensures) ∙ omega (arith, c.if-to-at.true))

pub returns-then-to-at-clause-kept : goal.returns-then-to-at-clause-kept
returns-then-to-at-clause-kept c = kept_same c.args.banks.now

pub returns-then-to-at-clause-moved : goal.returns-then-to-at-clause-moved
returns-then-to-at-clause-moved c = counts_none c.args.banks.now.banks c.args.banks.now.slots c.args.plan.now.slots c.args.h c.args.at c.requires.can (sym (looked_up c.args.banks.now.banks c.args.banks.now.slots c.args.plan.now.slots c.args.h c.args.at c.requires.can c.in-Ok.block c.in-Ok.ensures c.unwrap_or-to.result c.unwrap_or-to.ensures) ∙ omega (arith, c.if-to-at.true))

pub returns-clause-carried : goal.returns-clause-carried
returns-clause-carried c = carried_shift c.args.banks.now.banks c.args.banks.now.slots c.args.plan.now.slots c.args.h c.args.at c.requires.can c.shift.new.self.slots c.unwrap_or-to.result (looked_up c.args.banks.now.banks c.args.banks.now.slots c.args.plan.now.slots c.args.h c.args.at c.requires.can c.in-Ok.block c.in-Ok.ensures c.unwrap_or-to.result c.unwrap_or-to.ensures) c.in-Ok-shift.ensures.shifted.shifts

pub returns-clause-kept : goal.returns-clause-kept
returns-clause-kept c = c.in-Ok-shift.ensures.shifted.kept

pub returns-clause-moved : goal.returns-clause-moved
returns-clause-moved c = counts_one c.args.banks.now.banks c.args.banks.now.slots c.args.plan.now.slots c.args.h c.args.at c.requires.can (λ same. omega (arith, c.if-to-at.false, (looked_up c.args.banks.now.banks c.args.banks.now.slots c.args.plan.now.slots c.args.h c.args.at c.requires.can c.in-Ok.block c.in-Ok.ensures c.unwrap_or-to.result c.unwrap_or-to.ensures), same))
