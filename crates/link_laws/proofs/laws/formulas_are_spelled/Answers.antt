use Rattle.link_laws.specs.laws.FormulaLaws.{spelled_is_found, formulas_are_spelled}
use Rattle.link_laws.proofs.laws.formulas_are_spelled.Goals as goal

pub returns : goal.returns
returns c = record { found = spelled_is_found; spelled = formulas_are_spelled }
