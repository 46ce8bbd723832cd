use Rattle.std.proofs.Common.{length}
use Rattle.omf_format.specs.Expression.{terms_in}
use Rattle.list_lines.specs.FormulaView.{terms_alone, AreParts}
use Rattle.list_lines.proofs.formula.text_of.Given as goal

-- the parts are those of the terms so far
abbrev pub invariant-terms : goal.invariant-terms
invariant-terms l = AreParts (terms_alone (terms_in l.expr.lab_len 0 l.expr.text)) (terms_alone l.terms) l.parts.items

abbrev pub decreases-terms : goal.decreases-terms
decreases-terms l = length l.terms
