use Rattle.std.proofs.Common.{◌+◌, ◌<◌, length, sym, subst, ◌∙◌, arith}
use Rattle.iigs_meaning.specs.Memory.{Memory}
use Rattle.loader_users.specs.Renewing.{AreRenewed}
use Rattle.loader_users.proofs.Written.{heads_of, handles_of, head_here, handle_here}
use Rattle.loader_users.proofs.Renewing.{room_now, tables_skip, tables_more}
use Rattle.loader_users.proofs.renew.relink_tables.Goals.{then-is_table, else-is_table}
use Rattle.loader_users.proofs.renew.relink_tables.Goals as goal

pub relink_table-requires : goal.relink_table-requires
relink_table-requires c =
    let segments = c.args.segments.now.items in
    let s = c.index-segment.result.now in
    let inside : c.places.k < length segments = omega (arith, c.places-test.true, c.len-k-end.ensures) in
    record {
      room = room_now (heads_of segments) (handles_of segments) c.args.only c.args.place c.args.banks.now c.places.banks c.places.k s.head c.places.invariant
          (head_here segments c.places.k s inside c.index-segment.ensures) s.handle (handle_here segments c.places.k s inside c.index-segment.ensures) c.requires.ready;
    }

pub places-preserved : goal.places-preserved
places-preserved c =
    let segments = c.args.segments.now.items in
    let s = c.index-segment.result.now in
    let inside : c.places.k < length segments = omega (arith, c.places-test.true, c.len-k-end.ensures) in
    let head = head_here segments c.places.k s inside c.index-segment.ensures in
    let handle = handle_here segments c.places.k s inside c.index-segment.ensures in
    elim c.if-is_table.branch [
      | then-is_table w ↦
          subst (λ (m : Memory). AreRenewed (heads_of segments) (handles_of segments) c.args.only c.args.place c.args.banks.now m (c.places.k + 1)) (sym w.banks-is)
          (tables_more (heads_of segments) (handles_of segments) c.args.only c.args.place c.args.banks.now c.places.banks c.places.k s.head c.places.invariant head s.handle handle c.requires.ready
          w.relink_table.new.banks (sym c.is_table.ensures ∙ w.if-is_table.true) w.relink_table.ensures)
      | else-is_table w ↦
          subst (λ (m : Memory). AreRenewed (heads_of segments) (handles_of segments) c.args.only c.args.place c.args.banks.now m (c.places.k + 1)) (sym w.banks-is)
          (tables_skip (heads_of segments) (handles_of segments) c.args.only c.args.place c.args.banks.now c.places.banks c.places.k s.head c.places.invariant head (sym c.is_table.ensures ∙ w.if-is_table.false))
    ]
