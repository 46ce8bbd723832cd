-- The files that a command reads: the paths that it needs in a state. These are this project's own rules.
use Rattle.std.specs.Prelude.{◌≡◌, ◌⊎◌, ◌≤◌, ◌+◌, ◌*◌, ℕ, Bool, true, false, not, ◌||◌, List, [], ◌∷◌, length, take, drop, Option, Some, None}
use Rattle.omf_io.specs.Files.{FileMap}
use Rattle.load_meaning.specs.declared.table.Target.{Target}
use Rattle.load_meaning.specs.Pathnames.{paths_of}
use Rattle.load_meaning.specs.LoadTable.{targets_of}
use Rattle.loader_machine.specs.Heads.{SegmentHead, head_of, is_table}
use Rattle.loader_machine.specs.State.{User, Machine, UserSeen, user_of, handles_of, outlines, named_by, is_attached}
use Rattle.loader_machine.specs.Found.{FileFound, Unread, Bad, Good, IsFound, Joined, AreJoined, Joins, Stops}
use Rattle.loader_machine.specs.Presences.{Presence, Absent, Purged, Idle, Active, presence_at}
use Rattle.loader_machine.specs.Commands.{Command, Load, LoadSegment, Jsl, Restart}
use Rattle.loader_machine.specs.Refusals.{Refuse, load_refusal, rows_refusal, bytes_refusal, load_segment_refusal, restart_refusal}
use Rattle.loader_machine.specs.Steps.{seen_of, Sees, IsSeen, StandsIn, IsAt, target_at_code, no_jsl, address_of, are_there, is_read_again}

-- a segment that is made active is read where it isn't there
abbrev pub is_read : Presence → Bool
is_read Absent = true
is_read (Purged h) = true
is_read (Idle h address) = false
is_read (Active h address) = false

-- the path where it is needed, unless the command is refused
abbrev pub path_if : Refuse → Bool → List ℕ → List (List ℕ)
path_if (Some fault) needed path = []
path_if None true path = path ∷ []
path_if None false path = []

-- a command on a user: none where the ID has no user, and else these
abbrev pub NeedsOf : FileMap → Machine → ℕ → (UserSeen → User → List (List ℕ)) → List (List ℕ) → Type 0
NeedsOf held state id of paths = ((user_of state.users id ≡ None) × (paths ≡ []))
    ⊎ ((sees : Sees held state id) × (paths ≡ of (seen_of sees.user sees.segments) sees.user))

-- a JSL that passes the checks before a read, and leads to an entry for this target, in a segment of this user
pub record Reaches (held : FileMap) (state : Machine) (id number at : ℕ) (other : ℕ) (t : Target) : Type 0 where
  pub owner : ℕ
  pub seen : Option UserSeen
  pub is_seen : IsSeen held state id seen
  pub passes : bytes_refusal state.slots seen number at 4 ≡ None
  pub bytes : List ℕ
  pub stands : StandsIn held state id number bytes
  pub jsl : no_jsl (take 4 (drop at bytes)) ≡ None
  pub table : ℕ
  pub offset : ℕ
  pub is_at : IsAt held state (address_of (take 4 (drop at bytes))) owner table offset
  pub is_table : is_table (head_of is_at.s) ≡ true
  pub target : target_at_code (targets_of is_at.s) 0 offset ≡ Some t
  pub named : named_by (outlines state.users) owner t.file ≡ Some other

-- a static segment that is read again at each restart
abbrev pub some_read_again : List SegmentHead → Bool
some_read_again [] = false
some_read_again (head ∷ heads) = is_read_again head || some_read_again heads

-- the path that a command needs in a state, if it needs one: a restart, where a static segment isn't there, or one is read again
abbrev pub Needs : FileMap → Machine → Command → List (List ℕ) → Type 0
Needs held state (Load path) paths = paths ≡ path_if (load_refusal (length state.users)) true path
Needs held state (LoadSegment id number) paths = NeedsOf held state id
    (λ seen user. path_if (load_segment_refusal (Some seen) number) (is_read (presence_at state.slots (handles_of user) number)) user.path) paths
Needs held state (Jsl id number at) paths =
    ((other : ℕ) × (t : Target) × Reaches held state id number at other t × (user : User) × (user_of state.users other ≡ Some user)
    × (paths ≡ path_if None (is_read (presence_at state.slots (handles_of user) t.segment)) user.path))
    ⊎ (((other : ℕ) (t : Target) → ¬ Reaches held state id number at other t) × (paths ≡ []))
Needs held state (Restart id) paths = NeedsOf held state id
    (λ seen user. path_if (restart_refusal (is_attached (outlines state.users) id) (Some seen))
    (not (are_there state.slots seen.heads seen.handles 1) || some_read_again seen.heads) user.path) paths
Needs _ _ _ paths = paths ≡ []

-- The paths that a command needs after the first, in order, and how many of them are read, where no read fails: for a load those of the
-- rows, up to the first at which it is refused, and for any other command none.
abbrev pub NeedsAfter : FileMap → Machine → Command → List (List ℕ) → ℕ → Type 0
NeedsAfter held state (Load path) rows reads = ((load_refusal (length state.users) ≡ None) × (found : FileFound) × IsFound held path found
    × (rows ≡ elim found [
      | Unread ↦ []
      | Bad fault ↦ []
      | Good segments ↦ elim (rows_refusal (length state.users) (length (paths_of segments))) [ None ↦ paths_of segments | Some fault ↦ [] ]
    ])
    × (joined : Joined) × AreJoined held rows joined × (reads ≡ elim joined [ Stops count why ↦ count | Joins all ↦ length all ]))
    ⊎ (((load_refusal (length state.users) ≡ None) → ⊥) × (rows ≡ []) × (reads ≡ 0))
NeedsAfter held state _ rows reads = (rows ≡ []) × (reads ≡ 0)

-- `reads` files are read for the command in the state: where no read fails, all whose turn is reached; else one at least and 17 at most,
-- where it needs one
abbrev pub IsReadFor : FileMap → Machine → Command → ℕ → ℕ → Type 0
IsReadFor held state command others reads = (first : List (List ℕ)) × Needs held state command first
    × (((others ≡ 0) × (rows : List (List ℕ)) × (following : ℕ) × NeedsAfter held state command rows following × (reads ≡ length first + following))
    ⊎ ((length first ≤ reads) × (reads ≤ 17 * length first) × (length first ≤ others)))
