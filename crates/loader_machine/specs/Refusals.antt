-- The refusals that need no byte of memory: of those that hold the first in each command's order, over what a loader and the
-- machine both know. These are this project's own rules.
use Rattle.std.specs.Prelude.{ℕ, ◌+◌, Bool, ◌==◌, nat_le, nat_lt, Option, Some, None, if◌then◌else◌}
use Rattle.omf_format.specs.Header.{is_dynamic, is_skipped}
use Rattle.iigs_meaning.specs.declared.handles.Handle.{Handle}
use Rattle.iigs_meaning.specs.declared.wants.Block.{Block}
use Rattle.iigs_meaning.specs.Slots.{get}
use Rattle.iigs_meaning.specs.Fits.{Slots}
use Rattle.loader_machine.specs.declared.faults.LoaderFault.{LoaderFault}
use Rattle.loader_machine.specs.declared.faults.LoaderFault.TheVariants.{NoUser, NotRunning, Running, NoSegment, Static, NotActive, TableByte, OutOfSegment, TooManyUsers, Stale, LoaderOwned, Empty}
use Rattle.loader_machine.specs.Heads.{SegmentHead, at_number, is_table}
use Rattle.loader_machine.specs.State.{UserSeen, is_running, max_users}
use Rattle.loader_machine.specs.Presences.{presence_at, is_active}

-- why a call is refused, if it is
abbrev pub Refuse : Type 0
Refuse = Option LoaderFault

-- ---- users and segments

-- the user was made and isn't gone
abbrev pub of_user : Option UserSeen → (UserSeen → Refuse) → Refuse
of_user None rest = Some NoUser
of_user (Some seen) rest = rest seen

-- it runs
abbrev pub of_running : UserSeen → Refuse → Refuse
of_running seen rest = if is_running seen.life then rest else Some NotRunning

-- the segment is there, and isn't skipped
abbrev pub of_segment : UserSeen → ℕ → (SegmentHead → Refuse) → Refuse
of_segment seen number rest = elim (at_number seen.heads number) [ None ↦ Some NoSegment | Some head ↦ if is_skipped head.kind then Some NoSegment else rest head ]

-- it is dynamic
abbrev pub of_dynamic : SegmentHead → Refuse → Refuse
of_dynamic head rest = if is_dynamic head.kind then rest else Some Static

-- it is active
abbrev pub of_active : Slots → UserSeen → ℕ → Refuse → Refuse
of_active slots seen number rest = if is_active (presence_at slots seen.handles number) then rest else Some NotActive

-- the `count` bytes from an offset on are within LENGTH
abbrev pub of_inside : ℕ → ℕ → SegmentHead → Refuse → Refuse
of_inside at count head rest = if nat_le (at + count) head.length then rest else Some OutOfSegment

-- a load: 255 users were made, gone ones included
unfoldable pub load_refusal : ℕ → Refuse
load_refusal made = if nat_lt made max_users then None else Some TooManyUsers

-- a load of a file with `rows` rows: more than 255 users would be made
unfoldable pub rows_refusal : ℕ → ℕ → Refuse
rows_refusal made rows = if nat_le (made + 1 + rows) max_users then None else Some TooManyUsers

unfoldable pub bytes_refusal : Slots → Option UserSeen → ℕ → ℕ → ℕ → Refuse
bytes_refusal slots user number at count = of_user user (λ seen. of_running seen (of_segment seen number (λ head.
    of_active slots seen number (of_inside at count head None))))

unfoldable pub info_refusal : Option UserSeen → ℕ → Refuse
info_refusal user number = of_user user (λ seen. of_segment seen number (λ head. None))

unfoldable pub load_segment_refusal : Option UserSeen → ℕ → Refuse
load_segment_refusal user number = of_user user (λ seen. of_running seen (of_segment seen number (λ head. of_dynamic head None)))

unfoldable pub unload_refusal : Slots → Option UserSeen → ℕ → Refuse
unload_refusal slots user number = of_user user (λ seen. of_running seen (of_segment seen number (λ head.
    of_dynamic head (of_active slots seen number None))))

-- a poke: no byte of a jump table is written
unfoldable pub poke_refusal : Slots → Option UserSeen → ℕ → ℕ → Refuse
poke_refusal slots user number at = of_user user (λ seen. of_running seen (of_segment seen number (λ head.
    of_active slots seen number (if is_table head then Some TableByte else of_inside at 1 head None))))

-- a user that is attached to another is shut down and restarted with that one alone
abbrev pub of_own : Bool → Refuse → Refuse
of_own attached rest = if attached then Some NoUser else rest

-- a shutdown: only a user that runs can be kept
unfoldable pub shut_down_refusal : Bool → Option UserSeen → Bool → Refuse
shut_down_refusal attached user keep = of_user user (λ seen. of_own attached (if keep then of_running seen None else None))

unfoldable pub restart_refusal : Bool → Option UserSeen → Refuse
restart_refusal attached user = of_user user (λ seen. of_own attached (if is_running seen.life then Some Running else None))

-- user 0 is the script
unfoldable pub purge_refusal : Option UserSeen → ℕ → Refuse
purge_refusal user id = if id == 0 then None else of_user user (λ seen. None)

-- ---- the script's own blocks

-- the handle is live
abbrev pub of_live : Option Block → (Block → Refuse) → Refuse
of_live None rest = Some Stale
of_live (Some block) rest = rest block

-- its block is the script's
abbrev pub of_script : Block → Refuse → Refuse
of_script block rest = if block.user == 0 then rest else Some LoaderOwned

unfoldable pub state_refusal : Slots → Handle → Refuse
state_refusal slots h = of_live (get slots h) (λ block. None)

unfoldable pub free_refusal : Slots → Handle → Refuse
free_refusal slots h = of_live (get slots h) (λ block. of_script block None)

-- a change of a block: it is there
unfoldable pub change_refusal : Slots → Handle → Refuse
change_refusal slots h = of_live (get slots h) (λ block. of_script block (elim block.at [ None ↦ Some Empty | Some address ↦ None ]))
