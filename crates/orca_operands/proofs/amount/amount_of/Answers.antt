use Rattle.std.proofs.Common.{List, map, ap, subst}
use Rattle.omf_format.specs.Expression.{Term}
use Rattle.orca_operands.specs.AmountView.{IsFormulaOf}
use Rattle.orca_operands.specs.NamesView.{constants}
use Rattle.orca_text.specs.View.{term}
use Rattle.orca_operands.proofs.Chains.{no_formula}
use Rattle.orca_operands.proofs.Written.{number_is}
use Rattle.orca_operands.proofs.amount.amount_of.Goals as goal

pub returns-in_default : goal.returns-in_default
returns-in_default c = λ tree is. absurd (no_formula term c.args.terms.now tree c.in_default.ensures.cases is)

pub returns-in-Some-chained_number : goal.returns-in-Some-chained_number
returns-in-Some-chained_number c = λ tree is.
    number_is (constants c.args.known) c.args.back c.in-Some-chained_number.number tree
    (c.in-Some-chained_number.ensures (term c.in-Some.first.now) tree c.in-Constant.ensures.value (subst (λ (l : List Term). IsFormulaOf l tree) (ap (map term) c.in-Some.ensures.cases.0) is))
