use Rattle.std.proofs.Common.{◌≡◌, ◌<◌, length, sym, ◌∙◌, arith}
use Rattle.std.specs.Prelude.{slice_get, Some}
use Rattle.omf_cells.specs.Load.{table_targets}
use Rattle.omf_c_files.specs.Views.{target_view}
use Rattle.omf_c_files.proofs.Lists.{put_next}
use Rattle.omf_c_files.proofs.parts.put_targets.Goals as goal

pub loop-k-preserved : goal.loop-k-preserved
loop-k-preserved c =
    let found : slice_get (table_targets c.args.load.now) c.loop-k.k ≡ Some c.in-Some.target = sym c.target.ensures ∙ c.in-Some.is in
    let inside : c.loop-k.k < length c.loop-k.room = omega (arith, c.loop-k-test.true, c.if-room-count.false, c.loop-k.invariant.0) in
    put_next target_view (table_targets c.args.load.now) c.loop-k.room c.args.room.now c.loop-k.k c.in-Some.target c.to_omf_target.result c.to_omf_target.ensures found inside c.loop-k.invariant
