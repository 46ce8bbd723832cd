use Rattle.std.proofs.Common.{◌∙◌, arith}
use Rattle.iigs_places.proofs.Turns.{turns_small}
use Rattle.iigs_places.proofs.First.{first_emptied}
use Rattle.iigs_places.proofs.Changed.{gone_bounded}
use Rattle.iigs_places.proofs.moves.purge_first.Goals as goal

pub limit_at-limit-requires-clause-small : goal.limit_at-limit-requires-clause-small
limit_at-limit-requires-clause-small c = rw c.deref.ensures.value (turns_small c.args.table.now c.gather_blocks.new.spots.items c.gather_blocks.new.turns.items c.gather_blocks.ensures.surveyed)

pub lay_all-requires-clause-bounded : goal.lay_all-requires-clause-bounded
lay_all-requires-clause-bounded c = rw (rw (c.limit_at-limit.ensures, c.deref.ensures.value) at c.empty_below.ensures
    ∙ first_emptied c.args.table.now c.gather_blocks.new.spots.items c.gather_blocks.new.turns.items c.gather_blocks.ensures.surveyed c.requires.bounded c.args.count c.min.result (omega (arith, c.min.ensures, c.gather_blocks.new.turns.ok)))
    (gone_bounded c.args.count c.args.table.now c.requires.bounded)

pub returns-clause-after : goal.returns-clause-after
returns-clause-after c = rw (c.limit_at-limit.ensures, c.deref.ensures.value) at c.empty_below.ensures
    ∙ first_emptied c.args.table.now c.gather_blocks.new.spots.items c.gather_blocks.new.turns.items c.gather_blocks.ensures.surveyed c.requires.bounded c.args.count c.min.result (omega (arith, c.min.ensures, c.gather_blocks.new.turns.ok))
