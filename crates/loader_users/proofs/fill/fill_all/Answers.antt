use Rattle.std.proofs.Common.{◌+◌, ◌<◌, length, sym, subst, ◌∙◌, arith}
use Rattle.iigs_meaning.specs.Memory.{Memory}
use Rattle.loader_users.specs.Filling.{AreFilled}
use Rattle.loader_users.proofs.Written.{heads_of, handles_of, head_here, handle_here, has_head, filled_skip, filled_more, there_now, fits_now}
use Rattle.loader_users.proofs.fill.fill_all.Goals.{in-Some, in-None}
use Rattle.loader_users.proofs.fill.fill_all.Goals as goal

pub fill_block-requires-clause-head : goal.fill_block-requires-clause-head
fill_block-requires-clause-head c =
    has_head c.args.load.now c.args.segments.now.items c.places.place c.index-segment.result.now c.requires.heads (omega (arith, c.places-test.true, c.len-place-end.ensures)) c.index-segment.ensures

pub fill_block-requires-clause-there : goal.fill_block-requires-clause-there
fill_block-requires-clause-there c =
    let segments = c.args.segments.now.items in
    let s = c.index-segment.result.now in
    let inside : c.places.place < length segments = omega (arith, c.places-test.true, c.len-place-end.ensures) in
    there_now c.args.load.now (heads_of segments) (handles_of segments) c.args.user c.args.places.now c.args.banks.now c.places.banks c.places.banks c.places.place c.in-Some.h s.head c.places.invariant c.requires.ready
    (head_here segments c.places.place s inside c.index-segment.ensures) (handle_here segments c.places.place s inside c.index-segment.ensures ∙ c.in-Some.is)

pub fill_block-requires-clause-fits : goal.fill_block-requires-clause-fits
fill_block-requires-clause-fits c =
    let segments = c.args.segments.now.items in
    let s = c.index-segment.result.now in
    let inside : c.places.place < length segments = omega (arith, c.places-test.true, c.len-place-end.ensures) in
    fits_now c.args.load.now (heads_of segments) (handles_of segments) c.args.user c.args.places.now c.args.banks.now c.places.banks c.places.banks c.places.place c.in-Some.h s.head c.places.invariant c.requires.ready
    (head_here segments c.places.place s inside c.index-segment.ensures) (handle_here segments c.places.place s inside c.index-segment.ensures ∙ c.in-Some.is)

pub places-preserved : goal.places-preserved
places-preserved c =
    let segments = c.args.segments.now.items in
    let s = c.index-segment.result.now in
    let inside : c.places.place < length segments = omega (arith, c.places-test.true, c.len-place-end.ensures) in
    let handle = handle_here segments c.places.place s inside c.index-segment.ensures in
    elim c.match-segment.branch [
      | in-Some w ↦
          subst (λ (m : Memory). AreFilled c.args.load.now (handles_of segments) c.args.user c.args.places.now c.args.banks.now m (c.places.place + 1)) (sym w.banks-is)
          (filled_more c.args.load.now (heads_of segments) (handles_of segments) c.args.user c.args.places.now c.args.banks.now c.places.banks w.fill_block.new.banks c.places.place w.in-Some.h s.head c.places.invariant c.requires.ready
          (head_here segments c.places.place s inside c.index-segment.ensures) (handle ∙ w.in-Some.is) w.fill_block.ensures)
      | in-None w ↦
          subst (λ (m : Memory). AreFilled c.args.load.now (handles_of segments) c.args.user c.args.places.now c.args.banks.now m (c.places.place + 1)) (sym w.banks-is)
          (filled_skip c.args.load.now (handles_of segments) c.args.user c.args.places.now c.args.banks.now c.places.banks c.places.place c.places.invariant (handle ∙ w.in-None.is))
    ]
