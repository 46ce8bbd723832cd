use Rattle.std.proofs.Common.{◌≡◌, List, map, Option, Some, None, subst, sym, ◌∙◌, ap}
use Rattle.std.specs.Prelude.{IfSome, Vec}
use Rattle.std.specs.declared.alloc.Global.{Global}
use Rattle.load_content.specs.declared.spots.PatchSpot.{PatchSpot}
use Rattle.load_content.specs.Content.{spread_all, shown_spots}
use Rattle.load_writer.specs.declared.written.Patch.{Patch}
use Rattle.load_writer.specs.WrittenParts.{seen}
use Rattle.omf_cells.specs.Whole.{AreSpaced}
use Rattle.omf_cells.proofs.WholeLists.{whole_there}
use Rattle.omf_cells.proofs.EndShows.{has_whole}
use Rattle.omf_cells.proofs.load.LoadFile.patches.Goals as goal

of_some : (found : Option (Vec Patch Global)) (patches : Vec Patch Global) (spots kept : List PatchSpot) → found ≡ Some patches → IfSome found (λ ps. spread_all (map seen ps.items) ≡ shown_spots spots) → spots ≡ kept
    → spread_all (map seen patches.items) ≡ shown_spots kept
of_some None patches spots kept is has same = absurd cc
of_some (Some ps) patches spots kept is has same =
    let one : ps ≡ patches = cc in
    ap (λ (p : Vec Patch Global). spread_all (map seen p.items)) (sym one) ∙ has ∙ ap shown_spots same

pub returns-then-are_spaced : goal.returns-then-are_spaced
returns-then-are_spaced c =
    let v = c.in-Some.found.0.now in
    let content = c.in-Some.found.1.now in
    let ps = c.in-Some-2.patches.items in
    let sorted = c.in_ok-patches-in-Some-2.patches.items in
    let spread : spread_all (map seen ps) ≡ shown_spots content.spots.items = of_some c.in_ok-patches.field-0 c.in-Some-2.patches c.deref.result.now content.spots.items c.in-Some-2.is c.in_ok-patches.ensures c.deref.ensures.value in
    has_whole c.args.self.now c.args.segment v (map seen sorted) c.in-Some.ensures.shows
    (whole_there c.args.self.now c.args.segment v content ps sorted c.in-Some.ensures spread c.in_ok-patches-in-Some-2.ensures
    (subst (λ (l : List Patch). AreSpaced v.header.length 0 (map seen l)) c.deref-2.ensures.value (c.are_spaced.ensures c.if-are_spaced.true)))
