-- How the causes against a file that is listed are printed.
use Rattle.std.specs.Prelude.{ℕ, List, codes}
use Rattle.list_meaning.specs.declared.faults.ListCause.{ListCause}
use Rattle.list_meaning.specs.declared.faults.ListCause.TheVariants.{Truncated, BadHeader, Unsupported, BadRecord, NotListable, TooLong, Memory}

-- the name of a cause
abbrev pub list_cause_name : ListCause → List ℕ
list_cause_name Truncated = codes "Truncated"
list_cause_name BadHeader = codes "BadHeader"
list_cause_name Unsupported = codes "Unsupported"
list_cause_name BadRecord = codes "BadRecord"
list_cause_name NotListable = codes "NotListable"
list_cause_name TooLong = codes "TooLong"
list_cause_name Memory = codes "Memory"
