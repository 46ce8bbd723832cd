-- How the causes against linked files are printed.
use Rattle.std.specs.Prelude.{ℕ, List, codes}
use Rattle.link_meaning.specs.declared.fault.LinkCause.{LinkCause}
use Rattle.link_meaning.specs.declared.fault.LinkCause.TheVariants.{Truncated, BadHeader, Unsupported, BadRecord, AlignFault, BadLength, BadLibrary, BadRuntime, Empty, Unresolved, Duplicate, OrgConflict, TooManySegments, SegmentTooLong, NotDynamic, Circular, DivideByZero, NotRelocatable, DynamicReference, OutOfSegment, TooManyEntries, DoesNotFit, FileTooLong, Memory}

-- the name of a cause
abbrev pub link_cause_name : LinkCause → List ℕ
link_cause_name Truncated = codes "Truncated"
link_cause_name BadHeader = codes "BadHeader"
link_cause_name Unsupported = codes "Unsupported"
link_cause_name BadRecord = codes "BadRecord"
link_cause_name AlignFault = codes "AlignFault"
link_cause_name BadLength = codes "BadLength"
link_cause_name BadLibrary = codes "BadLibrary"
link_cause_name BadRuntime = codes "BadRuntime"
link_cause_name Empty = codes "Empty"
link_cause_name Unresolved = codes "Unresolved"
link_cause_name Duplicate = codes "Duplicate"
link_cause_name OrgConflict = codes "OrgConflict"
link_cause_name TooManySegments = codes "TooManySegments"
link_cause_name SegmentTooLong = codes "SegmentTooLong"
link_cause_name NotDynamic = codes "NotDynamic"
link_cause_name Circular = codes "Circular"
link_cause_name DivideByZero = codes "DivideByZero"
link_cause_name NotRelocatable = codes "NotRelocatable"
link_cause_name DynamicReference = codes "DynamicReference"
link_cause_name OutOfSegment = codes "OutOfSegment"
link_cause_name TooManyEntries = codes "TooManyEntries"
link_cause_name DoesNotFit = codes "DoesNotFit"
link_cause_name FileTooLong = codes "FileTooLong"
link_cause_name Memory = codes "Memory"
