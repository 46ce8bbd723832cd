use Rattle.orca_meaning.specs.laws.FormulaLaws.{one_tree, spells, pending-one, pending-two}
use Rattle.orca_meaning.proofs.source_laws.formulas_are_expressions.Goals as goal

pub returns-clause-one_tree : goal.returns-clause-one_tree
returns-clause-one_tree c = one_tree

pub returns-clause-spells : goal.returns-clause-spells
returns-clause-spells c = spells

pub returns-clause-pending : goal.returns-clause-pending
returns-clause-pending c = pending-one

pub returns-clause-written : goal.returns-clause-written
returns-clause-written c = pending-two
