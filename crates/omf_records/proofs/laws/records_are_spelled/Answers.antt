use Rattle.omf_records.proofs.Spelled.{read_is_spelled, spelled_is_read, none_begins_another}
use Rattle.omf_records.proofs.laws.records_are_spelled.Goals as goal

pub returns-clause-read_is_spelled : goal.returns-clause-read_is_spelled
returns-clause-read_is_spelled c = read_is_spelled

pub returns-clause-spelled_is_read : goal.returns-clause-spelled_is_read
returns-clause-spelled_is_read c = spelled_is_read

pub returns-clause-none_begins_another : goal.returns-clause-none_begins_another
returns-clause-none_begins_another c = none_begins_another
