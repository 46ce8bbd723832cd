use Rattle.load_meaning.specs.laws.LoadableLaws.{header_fault-reported, record_fault-reported}
use Rattle.omf_cells.proofs.laws.faults_keep_their_places.Goals as goal

pub returns-clause-header : goal.returns-clause-header
returns-clause-header c = header_fault-reported

pub returns-clause-record : goal.returns-clause-record
returns-clause-record c = record_fault-reported
