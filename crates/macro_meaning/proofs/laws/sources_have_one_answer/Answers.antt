use Rattle.macro_meaning.specs.laws.ExpansionProofs.{one_expansion, no_fault_beside, one_first_fault}
use Rattle.macro_meaning.specs.laws.Unanswered.{none_unanswered}
use Rattle.macro_meaning.proofs.laws.sources_have_one_answer.Goals as goal

pub returns-clause-expansion : goal.returns-clause-expansion
returns-clause-expansion c = one_expansion

pub returns-clause-beside : goal.returns-clause-beside
returns-clause-beside c = no_fault_beside

pub returns-clause-fault : goal.returns-clause-fault
returns-clause-fault c = one_first_fault

pub returns-clause-some : goal.returns-clause-some
returns-clause-some c = none_unanswered
