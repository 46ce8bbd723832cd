-- How the causes against a file that is to be compacted are printed.
use Rattle.std.specs.Prelude.{ℕ, List, codes}
use Rattle.omf_compact.specs.declared.fault.CompactCause.{CompactCause}
use Rattle.omf_compact.specs.declared.fault.CompactCause.TheVariants.{NotLoadFile, Truncated, BadHeader, Unsupported, BadRecord, Sequence, DataTooLong, PatchOutside, NoSuchTarget, DynamicTarget, BadTable, BrokenPart, TooLong, Memory}

-- the name of a cause
abbrev pub compact_cause_name : CompactCause → List ℕ
compact_cause_name NotLoadFile = codes "NotLoadFile"
compact_cause_name Truncated = codes "Truncated"
compact_cause_name BadHeader = codes "BadHeader"
compact_cause_name Unsupported = codes "Unsupported"
compact_cause_name BadRecord = codes "BadRecord"
compact_cause_name Sequence = codes "Sequence"
compact_cause_name DataTooLong = codes "DataTooLong"
compact_cause_name PatchOutside = codes "PatchOutside"
compact_cause_name NoSuchTarget = codes "NoSuchTarget"
compact_cause_name DynamicTarget = codes "DynamicTarget"
compact_cause_name BadTable = codes "BadTable"
compact_cause_name BrokenPart = codes "BrokenPart"
compact_cause_name TooLong = codes "TooLong"
compact_cause_name Memory = codes "Memory"
