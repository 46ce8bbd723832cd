use Rattle.load_meaning.specs.laws.LoadableLaws.{loadable_same, loadable_sound, first_fault_same}
use Rattle.omf_cells.proofs.laws.load_files_are_read_in_one_way.Goals as goal

pub returns-clause-one_list : goal.returns-clause-one_list
returns-clause-one_list c = loadable_same

pub returns-clause-no_fault : goal.returns-clause-no_fault
returns-clause-no_fault c = loadable_sound

pub returns-clause-one_fault : goal.returns-clause-one_fault
returns-clause-one_fault c = first_fault_same
