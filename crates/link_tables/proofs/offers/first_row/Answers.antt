use Rattle.std.proofs.Common.{ℕ, List, sym, ap, ◌∙◌}
use Rattle.std.specs.Option.{option_or}
use Rattle.link_meaning.specs.declared.search.SearchStep.TheVariants.{Everyone}
use Rattle.link_tables.specs.declared.names.Matches.{Matches}
use Rattle.link_tables.specs.Names.{Named, outcome}
use Rattle.link_tables.specs.Offers.{number_of}
use Rattle.link_tables.proofs.offers.first_row.Goals as goal

abbrev every : List ℕ → Named
every name = record { step = Everyone; name = name }

pub returns-in-Nothing : goal.returns-in-Nothing
returns-in-Nothing c = λ rows ix.
    c.first_public.ensures rows ix
    ∙ ap (λ (o : Matches). option_or (number_of o) (number_of (outcome rows (every c.args.name.now)))) (sym c.in-Nothing.is ∙ c.look.ensures rows ix)

pub returns-in-One : goal.returns-in-One
returns-in-One c = λ rows ix. ap (λ (o : Matches). option_or (number_of o) (number_of (outcome rows (every c.args.name.now)))) (sym c.in-One.is ∙ c.look.ensures rows ix)

pub returns-in-Several : goal.returns-in-Several
returns-in-Several c = λ rows ix. ap (λ (o : Matches). option_or (number_of o) (number_of (outcome rows (every c.args.name.now)))) (sym c.in-Several.is ∙ c.look.ensures rows ix)
