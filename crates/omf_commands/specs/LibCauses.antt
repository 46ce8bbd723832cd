-- How the causes against the files of a library are printed.
use Rattle.std.specs.Prelude.{ℕ, List, codes}
use Rattle.lib_dict.specs.declared.fault.LibCause.{LibCause}
use Rattle.lib_dict.specs.declared.fault.LibCause.TheVariants.{Truncated, BadHeader, Unsupported, BadRecord, TooLong, Memory}

-- the name of a cause
abbrev pub lib_cause_name : LibCause → List ℕ
lib_cause_name Truncated = codes "Truncated"
lib_cause_name BadHeader = codes "BadHeader"
lib_cause_name Unsupported = codes "Unsupported"
lib_cause_name BadRecord = codes "BadRecord"
lib_cause_name TooLong = codes "TooLong"
lib_cause_name Memory = codes "Memory"
