use Rattle.std.proofs.Common.{List, sym, subst}
use Rattle.omf_format.specs.Expression.{AreTerms, Term}
use Rattle.orca_operands.specs.AmountView.{IsFormulaOf}
use Rattle.orca_operands.specs.NamesView.{constants}
use Rattle.orca_operands.proofs.Formulated.{terms_formed, amount_fine}
use Rattle.orca_operands.proofs.After.{then_if}
use Rattle.orca_operands.proofs.amount.amount_in.Goals as goal

pub amount_of-requires : goal.amount_of-requires
amount_of-requires c = subst (AreTerms 0) (sym c.terms.ensures) (terms_formed c.args.text.bytes.now c.in-Ok.formula (rw c.in-Ok.is at c.in_ok-formula.ensures))

pub returns-in-Ok-clause-fine : goal.returns-in-Ok-clause-fine
returns-in-Ok-clause-fine c =
    then_if c.amount_of.result (λ answer k. amount_fine (constants c.args.known) c.args.text.bytes.now c.in-Ok.formula answer c.recall_small.ensures (rw c.in-Ok.is at c.in_ok-formula.ensures) (λ tree is. k tree (subst (λ (l : List Term). IsFormulaOf l tree) (sym c.terms.ensures) is))) c.amount_of.ensures
