use Rattle.std.proofs.Common.{inr, refl, length, ap, ◌∙◌, arith}
use Rattle.std.proofs.lemmas.List.{length-map}
use Rattle.link_tables.specs.Uses.{use_view}
use Rattle.std.proofs.lemmas.Option.{slice_get_within}
use Rattle.link_meaning.specs.Member.{setting_in}
use Rattle.link_meaning.specs.Search.{outside}
use Rattle.link_meaning.specs.LinkedList.{all_uses}
use Rattle.link_resolve.proofs.PhaseLaws.{use_at, first_used}
use Rattle.link_resolve.proofs.resolving.check_names.Goals as goal

pub first_unresolved_use-requires-clause-held : goal.first_unresolved_use-requires-clause-held
first_unresolved_use-requires-clause-held c = (c.requires.0, c.requires.1)

pub first_unresolved_use-requires-clause-table : goal.first_unresolved_use-requires-clause-table
first_unresolved_use-requires-clause-table c = (outside (setting_in c.requires.0), c.requires.2)

pub use_numbered-at-requires-clause-held : goal.use_numbered-at-requires-clause-held
use_numbered-at-requires-clause-held c = (c.requires.0, c.requires.1)

pub use_numbered-at-requires-clause-within : goal.use_numbered-at-requires-clause-within
use_numbered-at-requires-clause-within c =
    let list = c.requires.0 in
    let first = c.in-Some.ensures list c.requires.1 c.requires.2 in
    let within = slice_get_within (all_uses list) c.in-Some.found.1 first.use' (use_at list c.in-Some.found.0 c.in-Some.found.1 first) in
    omega (arith, within, ap length c.requires.1.uses, length-map (all_uses list) use_view)

pub returns-clause-refused : goal.returns-clause-refused
returns-clause-refused c = λ list holds far.
    let first = c.in-Some.ensures list holds far in
    let used = c.use_numbered-at.ensures.reported list first.use' holds (use_at list c.in-Some.found.0 c.in-Some.found.1 first) in
    inr (first_used list c.in-Some.found.0 c.in-Some.found.1 c.use_numbered-at.result.0 c.in-Ok.name c.use_numbered-at.result.2 _ first used.0 (c.in-Ok.ensures.ok ∙ used.1) used.2 refl)
