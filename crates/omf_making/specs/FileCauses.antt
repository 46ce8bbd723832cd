-- How the causes against a file are printed.
use Rattle.std.specs.Prelude.{ℕ, List, codes}
use Rattle.omf_format.specs.declared.fault.FileCause.{FileCause}
use Rattle.omf_format.specs.declared.fault.FileCause.TheVariants.{Truncated, BadHeader, Unsupported, BadRecord, Memory}

-- the name of a cause
abbrev pub cause_name : FileCause → List ℕ
cause_name Truncated = codes "Truncated"
cause_name BadHeader = codes "BadHeader"
cause_name Unsupported = codes "Unsupported"
cause_name BadRecord = codes "BadRecord"
cause_name Memory = codes "Memory"
