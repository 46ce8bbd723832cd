use Rattle.omf_format.specs.laws.FileLaws.{file_same, no_file, one_first_fault}
use Rattle.omf_records.proofs.laws.files_are_read_in_one_way.Goals as goal

pub returns-clause-one_list : goal.returns-clause-one_list
returns-clause-one_list c file a b = file_same a b file

pub returns-clause-fault_is_no_file : goal.returns-clause-fault_is_no_file
returns-clause-fault_is_no_file c = no_file

pub returns-clause-one_first_fault : goal.returns-clause-one_first_fault
returns-clause-one_first_fault c = one_first_fault
