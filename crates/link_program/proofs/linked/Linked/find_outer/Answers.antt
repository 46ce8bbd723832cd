use Rattle.std.proofs.Common.{◌≡◌, ℕ, Some, refl}
use Rattle.std.specs.Prelude.{slice_get}
use Rattle.link_meaning.specs.declared.search.SearchStep.TheVariants.{OfUnit, Everyone}
use Rattle.link_meaning.specs.Search.{FoundDefinition, with_this_name}
use Rattle.link_tables.specs.declared.names.Matches.TheVariants.{Nothing, One, Several}
use Rattle.link_program.proofs.SearchLaws.{seen_definitions, outer_first, outer_second, one_some, several_some}
use Rattle.link_program.proofs.linked.Linked.find_outer.Goals as goal

pub returns-in-Nothing : goal.returns-in-Nothing
returns-in-Nothing c = λ fs m are of.
    let o = c.args.origin in
    let T : FoundDefinition → ℕ → Type 0 = λ f number. slice_get fs number ≡ Some f in
    let first = seen_definitions fs (OfUnit o.file o.from) c.args.name.now c.look.result Nothing (c.look.ensures fs are) c.in-Nothing.is in
    let second = seen_definitions fs Everyone c.args.name.now c.look-in-Nothing.result c.look-in-Nothing.result (c.look-in-Nothing.ensures fs are) refl in
    outer_second T m o (with_this_name c.args.name.now fs) c.look-in-Nothing.result of first second

pub returns-in-One : goal.returns-in-One
returns-in-One c = λ fs m are of.
    let o = c.args.origin in
    let T : FoundDefinition → ℕ → Type 0 = λ f number. slice_get fs number ≡ Some f in
    let first = seen_definitions fs (OfUnit o.file o.from) c.args.name.now c.look.result (One c.in-One.first) (c.look.ensures fs are) c.in-One.is in
    outer_first T m o (with_this_name c.args.name.now fs) (One c.in-One.first) of first (one_some c.in-One.first)

pub returns-in-Several : goal.returns-in-Several
returns-in-Several c = λ fs m are of.
    let o = c.args.origin in
    let T : FoundDefinition → ℕ → Type 0 = λ f number. slice_get fs number ≡ Some f in
    let first = seen_definitions fs (OfUnit o.file o.from) c.args.name.now c.look.result (Several c.in-Several.first) (c.look.ensures fs are) c.in-Several.is in
    outer_first T m o (with_this_name c.args.name.now fs) (Several c.in-Several.first) of first (several_some c.in-Several.first)
