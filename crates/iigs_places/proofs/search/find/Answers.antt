use Rattle.iigs_places.specs.Spots.{IsSurvey}
use Rattle.iigs_places.proofs.Turns.{turns_small}
use Rattle.iigs_places.proofs.Placed.{found_in, ends_small}
use Rattle.iigs_places.proofs.Quick.{quick_found}
use Rattle.iigs_places.proofs.search.find.Goals as goal

pub least_among-requires : goal.least_among-requires
least_among-requires c = record {
  want = c.requires.want;
  order = rw c.deref.ensures.value (c.requires.laid.laid.cover c.requires.joined).are.order;
  ends = rw c.deref.ensures.value (c.requires.laid.laid.cover c.requires.joined).are.ends;
}

pub returns-in-Some-clause-found : goal.returns-in-Some-clause-found
returns-in-Some-clause-found c = quick_found c.args.table.now c.args.layout.now.marks.items c.requires.laid.have c.args.layout.now.runs.items (c.requires.laid.laid.cover c.requires.joined)
    c.args.map.now c.args.want.now c.requires.want c.in-Some.at (rw c.deref.ensures.value at c.in-Some.ensures)

pub fewest_purges-requires-clause-ends : goal.fewest_purges-requires-clause-ends
fewest_purges-requires-clause-ends c =
    let s : IsSurvey c.args.table.now c.deref-2.result.now c.deref-3.result.now = rw (c.deref-2.ensures.value, c.deref-3.ensures.value) c.gather_blocks.ensures.surveyed in
    ends_small c.args.map.now c.args.want.now c.requires.want c.args.table.now c.deref-2.result.now c.deref-3.result.now s c.requires.bounded

pub fewest_purges-requires-clause-small : goal.fewest_purges-requires-clause-small
fewest_purges-requires-clause-small c =
    let s : IsSurvey c.args.table.now c.deref-2.result.now c.deref-3.result.now = rw (c.deref-2.ensures.value, c.deref-3.ensures.value) c.gather_blocks.ensures.surveyed in
    turns_small c.args.table.now c.deref-2.result.now c.deref-3.result.now s

pub returns-clause-found : goal.returns-clause-found
returns-clause-found c =
    let s : IsSurvey c.args.table.now c.deref-2.result.now c.deref-3.result.now = rw (c.deref-2.ensures.value, c.deref-3.ensures.value) c.gather_blocks.ensures.surveyed in
    found_in c.args.map.now c.args.want.now c.requires.want c.args.table.now c.deref-2.result.now c.deref-3.result.now s c.requires.bounded c.fewest_purges.result c.fewest_purges.ensures
