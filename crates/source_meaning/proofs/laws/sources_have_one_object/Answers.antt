use Rattle.source_meaning.specs.laws.ObjectProofs.{one_object, no_fault_beside', one_first_fault'}
use Rattle.source_meaning.specs.laws.Unanswered.{none_unanswered}
use Rattle.source_meaning.proofs.laws.sources_have_one_object.Goals as goal

pub returns-clause-object : goal.returns-clause-object
returns-clause-object c = one_object

pub returns-clause-beside : goal.returns-clause-beside
returns-clause-beside c = no_fault_beside'

pub returns-clause-fault : goal.returns-clause-fault
returns-clause-fault c = one_first_fault'

pub returns-clause-some : goal.returns-clause-some
returns-clause-some c = none_unanswered
