-- What is wrong with a load file, as the causes of this crate.
use Rattle.load_meaning.specs.declared.load.LoadCause.{LoadCause}
use Rattle.load_meaning.specs.declared.load.LoadCause.TheVariants as load
use Rattle.load_meaning.specs.declared.load.LoadFault.{LoadFault}
use Rattle.omf_compact.specs.declared.fault.CompactCause.{CompactCause}
use Rattle.omf_compact.specs.declared.fault.CompactCause.TheVariants.{NotLoadFile, Truncated, BadHeader, Unsupported, BadRecord, Sequence, DataTooLong, PatchOutside, NoSuchTarget, DynamicTarget, BadTable, Memory}
use Rattle.omf_compact.specs.declared.fault.CompactFault.{CompactFault}

-- the cause of the same name
abbrev pub compact_cause : LoadCause → CompactCause
compact_cause load.NotLoadFile = NotLoadFile
compact_cause load.Truncated = Truncated
compact_cause load.BadHeader = BadHeader
compact_cause load.Unsupported = Unsupported
compact_cause load.BadRecord = BadRecord
compact_cause load.Sequence = Sequence
compact_cause load.DataTooLong = DataTooLong
compact_cause load.PatchOutside = PatchOutside
compact_cause load.NoSuchTarget = NoSuchTarget
compact_cause load.DynamicTarget = DynamicTarget
compact_cause load.BadTable = BadTable
compact_cause load.Memory = Memory

-- the fault with the same segment and place
abbrev pub as_compact : LoadFault → CompactFault
as_compact fault = record { cause = compact_cause fault.cause; segment = fault.segment; at = fault.at }
