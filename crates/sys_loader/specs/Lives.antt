-- What calls on the segments of users do, whatever files there are.
use Rattle.std.specs.Prelude.{◌≡◌, ℕ, ◌+◌, ◌≤◌, Bool, true, false, List, [], ◌∷◌, ◌++◌, length, Option, Some, None, slice_set, Result, Ok, Err}
use Rattle.omf_format.specs.Header.{is_dynamic}
use Rattle.iigs_meaning.specs.declared.handles.Handle.{Handle}
use Rattle.iigs_meaning.specs.declared.wants.Block.{Block}
use Rattle.iigs_meaning.specs.Memory.{Memory, KeepsBut, IsPurged, bytes_at}
use Rattle.std.specs.List.{flat_map}
use Rattle.loader_machine.specs.declared.faults.LoaderFault.{LoaderFault}
use Rattle.loader_machine.specs.Heads.{is_table}
use Rattle.loader_machine.specs.Refusals.{purge_refusal, poke_refusal, unload_refusal, shut_down_refusal}
use Rattle.loader_machine.specs.Commands.{Reply, Counted, Refused}
use Rattle.loader_machine.specs.declared.seen.Life.TheVariants.{Running, Dormant}
use Rattle.loader_machine.specs.State.{user_of, handles_in, led_by, is_attached, with_all, without_all}
use Rattle.loader_machine.specs.Steps.{idle_block, changed_all, without_users, let_go}
use Rattle.loader_agrees.specs.Agrees.{LoadedUser, Loaded, kept_outlines, seen_by}
use Rattle.loader_agrees.specs.Acts.{IsActive}
use Rattle.loader_users.specs.Renewing.{AreRenewed}
use Rattle.loader_users.specs.Users.{with_life}
use Rattle.loader_users.specs.Shifted.{HasShifted}
use Rattle.loader_users.specs.Bytes.{with_bytes}

-- ---- purge

abbrev pub purge_reply : Result ℕ LoaderFault → Reply
purge_reply (Ok count) = Counted count
purge_reply (Err fault) = Refused fault

-- what a purge did: the user's purgeable blocks are emptied and counted, or the ID has no user and all stays
abbrev pub DidPurge : Loaded → ℕ → Result ℕ LoaderFault → Loaded → Type 0
DidPurge old id (Ok count) new = (purge_refusal (seen_by old id) id ≡ None) × IsPurged old.memory id count new.memory × (new.users ≡ old.users)
DidPurge old id (Err fault) new = (purge_refusal (seen_by old id) id ≡ Some fault) × (new ≡ old)

-- ---- poke

-- a byte of an active segment can be poked
pub record CanPoke (loader : Loaded) (id number at : ℕ) (h : Handle) : Type 0 where
  pub passes : poke_refusal loader.memory.slots (seen_by loader id) number at ≡ None
  pub is : IsActive loader id number h
  pub plain : is_table is.head ≡ false
  pub inside : at + 1 ≤ is.head.length

-- the loader with this byte at a place in a handle's block
abbrev pub with_byte : Loaded → Handle → ℕ → ℕ → Loaded
with_byte loader h at byte = record { memory = with_bytes loader.memory h.slot (slice_set (bytes_at loader.memory h.slot) at byte); users = loader.users }

-- a byte is poked, and nothing else changes
pub record HasPoked (old : Loaded) (id number at byte : ℕ) (new : Loaded) : Type 0 where
  pub h : Handle
  pub can : CanPoke old id number at h
  pub new_is : new ≡ with_byte old h at byte

-- what a poke did: the byte is written, or the call is refused and all stays
abbrev pub DidPoke : Loaded → ℕ → ℕ → ℕ → ℕ → Result (Unit {0}) LoaderFault → Loaded → Type 0
DidPoke old id number at byte (Ok done) new = HasPoked old id number at byte new
DidPoke old id number at byte (Err fault) new = (poke_refusal old.memory.slots (seen_by old id) number at ≡ Some fault) × (new ≡ old)

-- ---- a segment that wakes or idles

-- the user's segment wakes or idles, and the entries for it follow in the tables of the user that leads to it
pub record HasTurned (old : Loaded) (id number : ℕ) (h : Handle) (change : Block → Block) (address : Option ℕ) (new : Loaded) : Type 0 where
  pub lead : LoadedUser
  pub leads : user_of old.users (led_by (kept_outlines old.users) id).0 ≡ Some lead
  pub shifted : HasShifted old lead ((led_by (kept_outlines old.users) id).1, number) h change address new

-- ---- unload

-- an active dynamic segment can be let go
pub record CanUnload (loader : Loaded) (id number : ℕ) (h : Handle) : Type 0 where
  pub passes : unload_refusal loader.memory.slots (seen_by loader id) number ≡ None
  pub is : IsActive loader id number h
  pub dynamic : is_dynamic is.head.kind ≡ true

-- the segment is idle, and the entries for it call the loader
pub record HasUnloaded (old : Loaded) (id number : ℕ) (new : Loaded) : Type 0 where
  pub h : Handle
  pub can : CanUnload old id number h
  pub turned : HasTurned old id number h idle_block None new

-- what an unload did: the segment is let go, or the call is refused and all stays
abbrev pub DidUnload : Loaded → ℕ → ℕ → Result (Unit {0}) LoaderFault → Loaded → Type 0
DidUnload old id number (Ok done) new = HasUnloaded old id number new
DidUnload old id number (Err fault) new = (unload_refusal old.memory.slots (seen_by old id) number ≡ Some fault) × (new ≡ old)

-- ---- shutdown

-- all handles of these users were released, and nothing is written
pub record AreReleased (ids : List ℕ) (old new : Memory) : Type 0 where
  pub slots : new.slots ≡ without_users old.slots ids
  pub bytes : KeepsBut old new []

-- the handles of the user and of those attached to it are released, and they are gone
pub record HasDropped (old : Loaded) (id : ℕ) (new : Loaded) : Type 0 where
  pub kept : LoadedUser
  pub made : user_of old.users id ≡ Some kept
  pub released : AreReleased (kept.attached ++ id ∷ []) old.memory new.memory
  pub users : new.users ≡ without_all old.users (kept.attached ++ id ∷ [])

-- the active ones of these segments are idle, and nothing is written
pub record AreIdled (handles : List (Option Handle)) (old new : Memory) : Type 0 where
  pub slots : new.slots ≡ changed_all let_go old.slots handles
  pub bytes : KeepsBut old new []

-- the user's tables call the loader, its active segments and those of the users attached to it are idle, and they are dormant
pub record HasKept (old : Loaded) (id : ℕ) (new : Loaded) : Type 0 where
  pub kept : LoadedUser
  pub made : user_of old.users id ≡ Some kept
  pub runs : kept.life ≡ Running
  pub middle : Memory
  pub renewed : AreRenewed kept.heads kept.handles None None old.memory middle (length kept.heads)
  pub idled : AreIdled (flat_map (handles_in (kept_outlines old.users)) (kept.attached ++ id ∷ [])) middle new.memory
  pub users : new.users ≡ with_all (with_life Dormant) old.users (kept.attached ++ id ∷ [])

-- what a shutdown did: the user is kept or dropped, or the call is refused and all stays
abbrev pub DidShutDown : Loaded → ℕ → Bool → Result (Unit {0}) LoaderFault → Loaded → Type 0
DidShutDown old id true (Ok done) new = HasKept old id new × (shut_down_refusal (is_attached (kept_outlines old.users) id) (seen_by old id) true ≡ None)
DidShutDown old id false (Ok done) new = HasDropped old id new × (shut_down_refusal (is_attached (kept_outlines old.users) id) (seen_by old id) false ≡ None)
DidShutDown old id keep (Err fault) new = (shut_down_refusal (is_attached (kept_outlines old.users) id) (seen_by old id) keep ≡ Some fault) × (new ≡ old)
