use Rattle.std.proofs.Common.{◌<◌, ◌∙◌, sym, arith, length, false, None}
use Rattle.iigs_memory.proofs.Cleared.{cleared_more, length-clear_one}
use Rattle.iigs_memory.proofs.placed.clear_all.Goals as goal

pub offset-requires : goal.offset-requires
offset-requires c =
    let inside : c.loop-place.place < length c.args.made.now = c.loop-place-test.true in
    let inside' : c.loop-place.place < length c.args.wants.now = omega (arith, c.requires.lengths) in
    (c.requires.inside c.loop-place.place (record { size = 0; align = 0; no_cross = false; no_special = false; at = None; bank = None; low = None }) _ inside' inside).0

pub loop-place-preserved : goal.loop-place-preserved
loop-place-preserved c =
    let inside : c.loop-place.place < length c.args.made.now = c.loop-place-test.true in
    let inside' : c.loop-place.place < length c.args.wants.now = omega (arith, c.requires.lengths) in
    let fits = c.requires.inside c.loop-place.place _ _ inside' inside in
    let more = cleared_more c.args.places.now.banks c.args.wants.now c.args.made.now c.args.bytes.now.items c.loop-place.place _ _ inside' inside in
    let is = c.clear.ensures.value in (
      rw (is, c.offset.ensures.value, c.loop-place.invariant.0) (sym more),
      rw is (length-clear_one c.offset.result _ c.loop-place.bytes.items (rw (c.offset.ensures.value, c.loop-place.invariant.1) fits.1) ∙ c.loop-place.invariant.1),
      c.clear.ensures.blank,
    )
