use Rattle.std.proofs.Common.{sym, subst}
use Rattle.link_meaning.specs.Search.{entries, outside, finds}
use Rattle.link_meaning.specs.laws.Steps.{finds_inside}
use Rattle.link_meaning.specs.Member.{setting_in}
use Rattle.link_tables.specs.declared.names.Matches.{Matches}
use Rattle.link_tables.specs.declared.names.Matches.TheVariants.{One, Several}
use Rattle.link_tables.specs.Definitions.{Sees}
use Rattle.link_program.specs.Outside.{all_found}
use Rattle.link_program.proofs.SearchLaws.{one_some, several_some}
use Rattle.link_program.proofs.OutsideTables.{found_inside, found_outside}
use Rattle.link_program.proofs.linked.Linked.find.Goals as goal

pub with_number_after-requires-clause-below : goal.with_number_after-requires-clause-below
with_number_after-requires-clause-below c = c.look.ensures.below c.requires.table

pub returns-in-Nothing : goal.returns-in-Nothing
returns-in-Nothing c = λ list m holds far at.
    let name = c.args.name.now in
    let answer = found_outside list c.args.place m name c.count.result c.find_inside.result c.look.result (c.find_inside.ensures list m holds at) c.in-Nothing.is (c.count.ensures.value (entries list) holds.definitions)
    (c.look.ensures.found (outside (setting_in list)) far) in
    subst (λ (o : Matches). Sees (all_found list) (finds list c.args.place m name) o) (sym c.with_number_after.ensures) answer

pub returns-in-One : goal.returns-in-One
returns-in-One c = λ list m holds far at.
    let name = c.args.name.now in
    let seen = subst (λ (o : Matches). Sees (entries list) (finds_inside list c.args.place m name) o) c.in-One.is (c.find_inside.ensures list m holds at) in
    found_inside list c.args.place m name (One c.in-One.first) seen (one_some c.in-One.first)

pub returns-in-Several : goal.returns-in-Several
returns-in-Several c = λ list m holds far at.
    let name = c.args.name.now in
    let seen = subst (λ (o : Matches). Sees (entries list) (finds_inside list c.args.place m name) o) c.in-Several.is (c.find_inside.ensures list m holds at) in
    found_inside list c.args.place m name (Several c.in-Several.first) seen (several_some c.in-Several.first)
