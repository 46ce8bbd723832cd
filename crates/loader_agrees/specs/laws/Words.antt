-- Words of lemmas: parts of what it means that a loader agrees with a state.
use Rattle.std.specs.Prelude.{◌≡◌, ℕ, ◌+◌, ◌≤◌, true, List, Option, Some, IsSome, slice_get}
use Rattle.omf_format.specs.File.{Segment, segment_at}
use Rattle.omf_io.specs.Files.{FileMap}
use Rattle.load_meaning.specs.declared.table.Target.{Target}
use Rattle.load_meaning.specs.LoadTable.{is_table, targets_of}
use Rattle.iigs_meaning.specs.declared.handles.Handle.{Handle}
use Rattle.iigs_meaning.specs.Fits.{Slots}
use Rattle.loader_machine.specs.Heads.{head_of, is_static}
use Rattle.loader_machine.specs.State.{first_id}
use Rattle.loader_machine.specs.Presences.{presence_at, there_at}
use Rattle.loader_machine.specs.Stands.{Far, far_of}
use Rattle.loader_machine.specs.Found.{HoldsLoad}
use Rattle.loader_agrees.specs.Agrees.{LoadedUser, Loaded, LeadsFar, kept_outlines}

-- where the segments of the attached users of the user of an ID are active
abbrev pub far_in : Loaded → ℕ → Far
far_in loader id = far_of loader.memory.slots (kept_outlines loader.users) id

-- every static segment is there
abbrev pub AreThere : Slots → List (Option Handle) → List Segment → Type 0
AreThere slots handles segments = (number : ℕ) (s : Segment) → segment_at segments number ≡ Some s → is_static (head_of s) ≡ true
    → IsSome (there_at (presence_at slots handles number))

-- each entry for an attached user in the table of a user's file leads to a place in that one
abbrev pub EntriesLead : FileMap → List (Option LoadedUser) → Type 0
EntriesLead held users = (place number k : ℕ) (kept : LoadedUser) (segments : List Segment) (s : Segment) (t : Target) → slice_get users place ≡ Some (Some kept)
    → HoldsLoad held kept.path segments → segment_at segments number ≡ Some s → is_table s ≡ true → slice_get (targets_of s) k ≡ Some t → 2 ≤ t.file
    → LeadsFar users (first_id + place) t
