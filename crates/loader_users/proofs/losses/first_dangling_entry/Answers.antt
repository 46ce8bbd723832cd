use Rattle.std.proofs.Common.{List, refl, sym, ◌∙◌, arith}
use Rattle.loader_machine.specs.declared.seen.SegmentHead.{SegmentHead}
use Rattle.omf_cells.specs.Load.{table_targets}
use Rattle.loader_users.specs.Users.{new_heads}
use Rattle.loader_users.proofs.Losing.{lost_here, lost_next, lost_past, lost_some, lost_none, entry_inside}
use Rattle.loader_users.proofs.losses.first_dangling_entry.Goals as goal

pub entries-init : goal.entries-init
entries-init c = refl

pub lost_at-requires : goal.lost_at-requires
lost_at-requires c =
    entry_inside c.args.load.now c.in-Some.table c.length_of-length.result c.entries.place (sym c.table.ensures ∙ c.in-Some.is) c.length_of-length.ensures (omega (arith, c.entries-test.true, c.target_count-place-end.ensures))

pub returns-then-not-is_reached : goal.returns-then-not-is_reached
returns-then-not-is_reached c =
    let heads : List (List SegmentHead) = new_heads c.args.joined.now.items in
    lost_some heads c.args.load.now c.in-Some.table c.entries.place c.lost_at.result (sym c.table.ensures ∙ c.in-Some.is) c.lost_at.ensures
    (c.entries.invariant ∙ lost_here heads (table_targets c.args.load.now) c.entries.place c.in-Some-target.target (sym c.target.ensures ∙ c.in-Some-target.is) (sym c.is_reached.ensures ∙ c.if-not-is_reached.true))

pub entries-preserved : goal.entries-preserved
entries-preserved c =
    let heads : List (List SegmentHead) = new_heads c.args.joined.now.items in
    c.entries.invariant ∙ lost_next heads (table_targets c.args.load.now) c.entries.place c.in-Some-target.target (sym c.target.ensures ∙ c.in-Some-target.is) (sym c.is_reached.ensures ∙ c.if-not-is_reached.false)

pub returns : goal.returns
returns c =
    let heads : List (List SegmentHead) = new_heads c.args.joined.now.items in
    lost_none heads c.args.load.now c.in-Some.table (sym c.table.ensures ∙ c.in-Some.is)
    (c.entries.invariant ∙ lost_past heads (table_targets c.args.load.now) c.entries.place (omega (arith, c.entries-test.false, c.target_count-place-end.ensures)))
