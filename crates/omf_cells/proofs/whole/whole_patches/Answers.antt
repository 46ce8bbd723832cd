use mir.Val.{to_z, of_z}
use mir.Syntax.{w8}
use Rattle.std.proofs.lemmas.Int.{to_z-of_z}
use Rattle.std.proofs.Common.{◌≡◌, ℤ, get_or, refl, ap, ◌∙◌, arith}
use Rattle.std.specs.Prelude.{pos}
use Rattle.load_meaning.specs.Cells.{Patch}
use Rattle.load_content.specs.declared.spots.PatchSpot.{PatchSpot}
use Rattle.load_content.specs.Content.{spot_patch}
use Rattle.omf_cells.proofs.WholeLists.{whole_more}
use Rattle.omf_cells.proofs.whole.whole_patches.Goals as goal

abbrev no_spot : PatchSpot
no_spot = record { at = 0; offset = 0; segment = 0; shift = pos 0; first = 0; end = 0 }

shaped : PatchSpot → ℤ → Patch
shaped s z = record { location = s.at; count = s.end; file = 1; segment = s.segment; offset = s.offset; shift = z }

shaped-is : (s : PatchSpot) → shaped s s.shift ≡ spot_patch s
unfolding shaped
shaped-is s = refl

pub spots-preserved : goal.spots-preserved
unfolding shaped
spots-preserved c =
    let s = get_or c.args.spots.now c.spots.spot-index no_spot in
    let shift : to_z w8 (of_z w8 s.shift) ≡ s.shift = grind (arith, to_z-of_z) in
    whole_more c.args.spots.now c.spots.patches.items c.push.new.self.items c.spots.spot-index no_spot _ c.spots-test.true c.spots.invariant c.in_ok-push.ensures.items c.if-spot-ne0.false
    (ap (λ (z : ℤ). shaped s z) shift ∙ shaped-is s)
