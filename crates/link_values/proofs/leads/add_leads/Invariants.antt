use Rattle.std.proofs.Common.{◌≡◌, ◌++◌, ℕ, Some, List, [], length}
use Rattle.std.specs.List.{flat_map}
use Rattle.link_meaning.specs.Member.{Member}
use Rattle.object_meaning.specs.Terms.{asks_value}
use Rattle.link_program.specs.Linked.{member_at}
use Rattle.link_values.specs.Equates.{NameRow, FindOne}
use Rattle.link_values.proofs.leads.add_leads.Given as goal

-- the names of the terms so far have their numbers
abbrev pub invariant-terms : goal.invariant-terms
invariant-terms l = (m : Member) → member_at l.program l.member_place.place ≡ Some m → FindOne l.program l.member_place.place m (flat_map (λ placed. asks_value placed.1) l.initial.terms) → l.initial.row.items ≡ []
    → (done : List (List ℕ)) × (done ++ flat_map (λ placed. asks_value placed.1) l.terms ≡ flat_map (λ placed. asks_value placed.1) l.initial.terms) × NameRow l.program l.member_place.place m done l.row.items

abbrev pub decreases-terms : goal.decreases-terms
decreases-terms l = length l.terms
