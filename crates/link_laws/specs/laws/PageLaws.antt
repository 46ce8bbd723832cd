-- The locations that a reader of the bytes finds are those of the pages.
use Rattle.std.proofs.Common.{ℕ, List, map, ap, ◌∙◌}
use Rattle.omf_format.specs.Super.{locations_left}
use Rattle.omf_format.specs.laws.SuperLaws.{locations_are}
use Rattle.load_meaning.specs.Cells.{super_patch}
use Rattle.link_laws.specs.Pages.{PatchesAreByPages}

pub patches_are_by_pages : PatchesAreByPages
patches_are_by_pages s form bytes of = ap (λ (l : List ℕ). map (super_patch s form) (locations_left 0 0 l)) of.text ∙ ap (map (super_patch s form)) (locations_are 0 of.pages of.each)
