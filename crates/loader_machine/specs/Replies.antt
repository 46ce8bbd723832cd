-- The printed text of replies: one line each.
use Rattle.std.specs.Prelude.{ℕ, List, [], ◌∷◌, ◌++◌, codes, Some, None, if◌then◌else◌}
use Rattle.std.specs.List.{flat_map}
use Rattle.omf_format.specs.Ascii as ascii
use Rattle.omf_base.specs.Digits.{hexadecimal}
use Rattle.load_meaning.specs.declared.load.LoadCause.{LoadCause}
use Rattle.load_meaning.specs.declared.load.LoadCause.TheVariants as cause
use Rattle.iigs_meaning.specs.declared.handles.Handle.{Handle}
use Rattle.loader_machine.specs.declared.seen.Presence.TheVariants.{Absent, Purged, Idle, Active}
use Rattle.loader_machine.specs.declared.faults.LoaderFault.{LoaderFault}
use Rattle.loader_machine.specs.declared.faults.LoaderFault.TheVariants as fault
use Rattle.loader_machine.specs.Commands.{Reply, Okay, Started, MadeActive, Entered, Counted, Shown, Lies, Nothing, SegmentIs, Placed, BlockIs, RoomIs, Moved, Refused}

-- ---- values

-- a handle in six digits: four of the slot and two of the generation
unfoldable pub handle_text : Handle → List ℕ
handle_text h = hexadecimal 4 h.slot ++ hexadecimal 2 h.generation

-- an address
unfoldable pub at_text : ℕ → List ℕ
at_text address = codes " at " ++ hexadecimal 6 address

-- ---- refusals

unfoldable pub cause_text : LoadCause → List ℕ
cause_text cause.NotLoadFile = codes "NotLoadFile"
cause_text cause.Truncated = codes "Truncated"
cause_text cause.BadHeader = codes "BadHeader"
cause_text cause.Unsupported = codes "Unsupported"
cause_text cause.BadRecord = codes "BadRecord"
cause_text cause.Sequence = codes "Sequence"
cause_text cause.DataTooLong = codes "DataTooLong"
cause_text cause.PatchOutside = codes "PatchOutside"
cause_text cause.NoSuchTarget = codes "NoSuchTarget"
cause_text cause.DynamicTarget = codes "DynamicTarget"
cause_text cause.BadTable = codes "BadTable"
cause_text cause.Memory = codes "Memory"

-- The name of a refusal; NoRoom and Changed are followed by the segment's number in four digits, BadFile by the cause of the load file's
-- fault, the segment's number in four digits, and the place in eight.
unfoldable pub refused_text : LoaderFault → List ℕ
refused_text fault.NoUser = codes "refused NoUser"
refused_text fault.NotRunning = codes "refused NotRunning"
refused_text fault.Running = codes "refused Running"
refused_text fault.NoSegment = codes "refused NoSegment"
refused_text fault.Static = codes "refused Static"
refused_text fault.NotActive = codes "refused NotActive"
refused_text fault.OutOfSegment = codes "refused OutOfSegment"
refused_text fault.TableByte = codes "refused TableByte"
refused_text fault.NotJsl = codes "refused NotJsl"
refused_text fault.NoTarget = codes "refused NoTarget"
refused_text fault.NotEntry = codes "refused NotEntry"
refused_text fault.TooManyUsers = codes "refused TooManyUsers"
refused_text fault.CannotRead = codes "cannot read"
refused_text (fault.BadFile bad) =
    codes "refused BadFile " ++ cause_text bad.cause ++ codes " " ++ hexadecimal 4 bad.segment ++ codes " " ++ hexadecimal 8 bad.at
refused_text (fault.Changed kept found) = codes "refused Changed " ++ hexadecimal 4 found.segment
refused_text fault.NoHandle = codes "refused NoHandle"
refused_text (fault.NoRoom number) = codes "refused NoRoom " ++ hexadecimal 4 number
refused_text fault.Stale = codes "refused Stale"
refused_text fault.LoaderOwned = codes "refused LoaderOwned"
refused_text fault.Empty = codes "refused Empty"
refused_text fault.Memory = codes "refused Memory"

-- ---- replies

-- the text of a reply: bytes in two digits each with one space between them, a block with its place, size, level and lock, or `empty`
unfoldable pub reply_text : Reply → List ℕ
reply_text Okay = codes "ok"
reply_text (Started user entry) =
    codes "user " ++ hexadecimal 4 user ++ codes " entry " ++ (elim entry [ None ↦ codes "none" | Some address ↦ hexadecimal 6 address ])
reply_text (MadeActive segment address) = codes "active " ++ hexadecimal 4 segment ++ at_text address
reply_text (Entered user segment offset address) =
    codes "entered " ++ hexadecimal 4 user ++ codes " " ++ hexadecimal 4 segment ++ codes " " ++ hexadecimal 8 offset ++ at_text address
reply_text (Counted count) = codes "purged " ++ hexadecimal 4 count
reply_text (Shown bytes) =
    elim bytes [ [] ↦ [] | byte ∷ following ↦ hexadecimal 2 byte ++ flat_map (λ other. codes " " ++ hexadecimal 2 other) following ]
reply_text (Lies user segment offset) = hexadecimal 4 user ++ codes " " ++ hexadecimal 4 segment ++ codes " " ++ hexadecimal 8 offset
reply_text Nothing = codes "nothing"
reply_text (SegmentIs presence length' kind) = (elim presence [
  | Absent ↦ codes "absent"
  | Purged h ↦ codes "purged " ++ handle_text h
  | Idle h address ↦ codes "idle " ++ handle_text h ++ at_text address
  | Active h address ↦ codes "active " ++ handle_text h ++ at_text address
]) ++ codes " length " ++ hexadecimal 8 length' ++ codes " kind " ++ hexadecimal 4 kind
reply_text (Placed h address) = codes "handle " ++ handle_text h ++ at_text address
reply_text (BlockIs state) = elim state.at [
  | None ↦ codes "empty"
  | Some address ↦ codes "at " ++ hexadecimal 6 address ++ codes " size " ++ hexadecimal 8 state.size ++ codes " level " ++ hexadecimal 1 state.level
      ++ (if state.locked then codes " locked" else codes " unlocked")
]
reply_text (RoomIs count) = hexadecimal 8 count
reply_text (Moved count) = codes "moved " ++ hexadecimal 4 count
reply_text (Refused fault) = refused_text fault

-- a reply and a line feed
unfoldable pub reply_line : Reply → List ℕ
reply_line reply = reply_text reply ++ ascii.line_feed ∷ []

-- the lines of replies
abbrev pub replies_text : List Reply → List ℕ
replies_text replies = flat_map reply_line replies
