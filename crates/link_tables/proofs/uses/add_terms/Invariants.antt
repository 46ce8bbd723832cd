use Rattle.std.proofs.Common.{◌≡◌, ◌++◌, length}
use Rattle.std.specs.List.{flat_map}
use Rattle.link_meaning.specs.Uses.{used_by_term}
use Rattle.link_tables.specs.Uses.{at_place, HaveShortNames}
use Rattle.link_tables.proofs.ShortNames.{AreShort}
use Rattle.link_tables.proofs.uses.add_terms.Given as goal

-- the uses so far, and those of the terms that are left
abbrev pub invariant-terms : goal.invariant-terms
invariant-terms l =
    (l.uses ++ at_place l.place (flat_map (λ placed. used_by_term l.at placed.1) l.terms)
    ≡ l.initial.uses ++ at_place l.place (flat_map (λ placed. used_by_term l.at placed.1) l.initial.terms))
    × AreShort l.terms × (HaveShortNames l.initial.uses → HaveShortNames l.uses)

abbrev pub decreases-terms : goal.decreases-terms
decreases-terms l = length l.terms
