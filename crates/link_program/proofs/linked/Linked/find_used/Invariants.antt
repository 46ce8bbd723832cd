use Rattle.std.proofs.Common.{◌≡◌, drop, map, List}
use Rattle.link_meaning.specs.declared.search.SearchStep.TheVariants.{Within}
use Rattle.link_meaning.specs.Member.{Member}
use Rattle.link_meaning.specs.Search.{entries, first_step_found, with_this_name}
use Rattle.link_tables.specs.Definitions.{IsOf}
use Rattle.link_program.specs.Linked.{Holds, names_of, used_places}
use Rattle.link_program.proofs.linked.Linked.find_used.Given as goal

-- no step so far found anything
abbrev pub invariant-loop-using : goal.invariant-loop-using
invariant-loop-using l = (list : List Member) (m : Member) → Holds list l.self → IsOf m l.origin
    → first_step_found (map Within (used_places list m (names_of l.usings))) (with_this_name l.name (entries list))
    ≡ first_step_found (map Within (used_places list m (names_of (drop l.using-index l.usings)))) (with_this_name l.name (entries list))
