use Rattle.std.proofs.Common.{◌≡◌, ℕ, sym, ◌∙◌}
use Rattle.link_meaning.specs.declared.search.SearchStep.TheVariants.{OfUnit, Everyone}
use Rattle.link_meaning.specs.Search.{FoundDefinition, data_titles, with_this_name, finds_data}
use Rattle.link_tables.specs.declared.names.Matches.TheVariants.{Nothing, One, Several}
use Rattle.link_program.proofs.SearchLaws.{seen_titles, outer_first, outer_second, one_some, several_some}
use Rattle.link_program.proofs.linked.Linked.find_data.Goals as goal

pub returns-in-Nothing : goal.returns-in-Nothing
unfolding finds_data
returns-in-Nothing c = λ list m holds of.
    let fs = data_titles list in
    let o = c.args.origin in
    let first = seen_titles fs c.args.self.now.titles (OfUnit o.file o.from) c.args.name.now Nothing holds.titles (λ rows ix. sym c.in-Nothing.is ∙ c.look.ensures rows ix) in
    let second = seen_titles fs c.args.self.now.titles Everyone c.args.name.now c.look-in-Nothing.result holds.titles c.look-in-Nothing.ensures in
    outer_second (λ (f : FoundDefinition) (number : ℕ). number ≡ f.place) m o (with_this_name c.args.name.now fs) c.look-in-Nothing.result of first second

pub returns-in-One : goal.returns-in-One
unfolding finds_data
returns-in-One c = λ list m holds of.
    let fs = data_titles list in
    let o = c.args.origin in
    let first = seen_titles fs c.args.self.now.titles (OfUnit o.file o.from) c.args.name.now (One c.in-One.first) holds.titles (λ rows ix. sym c.in-One.is ∙ c.look.ensures rows ix) in
    outer_first (λ (f : FoundDefinition) (number : ℕ). number ≡ f.place) m o (with_this_name c.args.name.now fs) (One c.in-One.first) of first (one_some c.in-One.first)

pub returns-in-Several : goal.returns-in-Several
unfolding finds_data
returns-in-Several c = λ list m holds of.
    let fs = data_titles list in
    let o = c.args.origin in
    let first = seen_titles fs c.args.self.now.titles (OfUnit o.file o.from) c.args.name.now (Several c.in-Several.first) holds.titles (λ rows ix. sym c.in-Several.is ∙ c.look.ensures rows ix) in
    outer_first (λ (f : FoundDefinition) (number : ℕ). number ≡ f.place) m o (with_this_name c.args.name.now fs) (Several c.in-Several.first) of first (several_some c.in-Several.first)
