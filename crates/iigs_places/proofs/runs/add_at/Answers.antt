use Rattle.std.proofs.Common.{arith, ◌<◌, ◌-◌, length}
use Rattle.iigs_places.specs.declared.spots.BlockSpot.{BlockSpot}
use Rattle.iigs_places.proofs.Covered.{longer_adds, longer_runs, fresh_adds, fresh_runs}
use Rattle.iigs_places.proofs.runs.add_at.Goals as goal

any : BlockSpot
any = record { at = 0; end = 0; turn = 0 }

pub returns-then-ends_at-clause-runs : goal.returns-then-ends_at-clause-runs
returns-then-ends_at-clause-runs c =
    let ends = rw c.deref.ensures.value at c.ends_at.ensures c.if-ends_at.true in
    let inside : c.args.count - 1 < length c.args.runs.now.items = omega (arith, ends.0, c.requires.stands.within) in
    rw (c.extend.ensures.items any) (longer_runs c.args.runs.now.items (c.args.count - 1) c.args.at c.args.end any inside (ends.1 any) c.requires.some c.requires.runs c.requires.ends)

pub returns-then-ends_at-clause-added : goal.returns-then-ends_at-clause-added
returns-then-ends_at-clause-added c =
    let ends = rw c.deref.ensures.value at c.ends_at.ensures c.if-ends_at.true in
    let inside : c.args.count - 1 < length c.args.runs.now.items = omega (arith, ends.0, c.requires.stands.within) in
    rw (c.extend.ensures.items any) (longer_adds c.args.runs.now.items (c.args.count - 1) c.args.at c.args.end any inside (ends.1 any) c.requires.some c.requires.runs)

pub returns-else-ends_at-clause-runs : goal.returns-else-ends_at-clause-runs
returns-else-ends_at-clause-runs c = rw c.insert_reserved.ensures.items (fresh_runs c.args.runs.now.items c.args.count c.args.at c.args.end _ c.requires.some c.requires.runs c.requires.stands c.requires.ends)

pub returns-else-ends_at-clause-added : goal.returns-else-ends_at-clause-added
returns-else-ends_at-clause-added c = rw c.insert_reserved.ensures.items (fresh_adds c.args.runs.now.items c.args.count c.args.at c.args.end _ c.requires.some)
