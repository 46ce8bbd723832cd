use Rattle.std.proofs.Common.{sym, ap, ◌∙◌}
use Rattle.link_tables.specs.Offers.{number_of}
use Rattle.link_tables.proofs.offers.first_public.Goals as goal

pub returns-in-Nothing : goal.returns-in-Nothing
returns-in-Nothing c = λ rows ix. ap number_of (sym c.in-Nothing.is ∙ c.look.ensures rows ix)

pub returns-in-One : goal.returns-in-One
returns-in-One c = λ rows ix. ap number_of (sym c.in-One.is ∙ c.look.ensures rows ix)

pub returns-in-Several : goal.returns-in-Several
returns-in-Several c = λ rows ix. ap number_of (sym c.in-Several.is ∙ c.look.ensures rows ix)
