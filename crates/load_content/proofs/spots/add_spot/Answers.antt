use mir.Val.{to_z, of_z}
use mir.Syntax.{w8}
use Rattle.std.proofs.lemmas.Int.{to_z-of_z}
use Rattle.std.proofs.Common.{◌≡◌, ℕ, ℤ, ◌-◌, List, ◌++◌, sym, ap, ◌∙◌, arith}
use Rattle.load_meaning.specs.Cells.{Cell}
use Rattle.load_content.specs.declared.spots.PatchSpot.{PatchSpot}
use Rattle.load_content.specs.Content.{patch_of, spread_from, spread_spot, cells_of_patch, shown_spots}
use Rattle.load_content.proofs.SpotLists.{shown-push}
use Rattle.load_content.proofs.spots.add_spot.Goals as goal

pub returns : goal.returns
returns c =
    let p = patch_of c.args.patch.now in
    let shift : to_z w8 (of_z w8 p.shift) ≡ p.shift = grind (arith, to_z-of_z) in
    let new : PatchSpot = record { at = p.location; offset = p.offset; segment = p.segment; shift = to_z w8 (of_z w8 p.shift); first = 0; end = p.count } in
    let all : p.count - 0 ≡ p.count = omega arith in
    let is : spread_spot new ≡ cells_of_patch p =
    ap (λ (n : ℕ). spread_from (record { location = p.location; count = p.count; file = 1; segment = p.segment; offset = p.offset; shift = to_z w8 (of_z w8 p.shift) }) p.location 0 n) all
    ∙ ap (λ (z : ℤ). spread_from (record { location = p.location; count = p.count; file = 1; segment = p.segment; offset = p.offset; shift = z }) p.location 0 p.count) shift
    ∙ ap (λ (n : ℕ). spread_from (record { location = p.location; count = p.count; file = n; segment = p.segment; offset = p.offset; shift = p.shift }) p.location 0 p.count) (sym c.requires.file) in
    ap shown_spots c.in_ok-push.ensures.items
    ∙ shown-push c.args.spots.now.items new
    ∙ ap (λ (l : List (ℕ × Cell)). shown_spots c.args.spots.now.items ++ l) is
