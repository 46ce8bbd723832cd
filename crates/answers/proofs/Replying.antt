-- Every command has a reply and a next state.
use Rattle.std.proofs.Common.{◌≡◌, ◌⊎◌, inl, inr, ℕ, zero, suc, ◌<◌, ◌≤◌, Bool, List, [], ◌∷◌, length, Option, Some, None, refl, sym, ap, subst, ◌∙◌}
use Rattle.std.specs.Prelude.{◌^◌}
use Rattle.std.specs.FinMap.{get}
use Rattle.std.specs.Option.{is_some}
use Rattle.std.proofs.lemmas.List.{get_or_past}
use Rattle.std.proofs.lemmas.Option.{same_Some}
use Rattle.std.proofs.lemmas.Bool.{cases_lt}
use Rattle.omf_io.specs.Files.{FileMap, max_file}
use Rattle.iigs_meaning.specs.declared.handles.Handle.{Handle}
use Rattle.iigs_meaning.specs.declared.wants.Want.{Want}
use Rattle.iigs_meaning.specs.declared.wants.Block.{Block}
use Rattle.iigs_meaning.specs.Slots.{slot_at, new_slot, new_handle, after_take, after_release}
use Rattle.iigs_meaning.specs.Slots.{get as block_of}
use Rattle.iigs_meaning.specs.Fits.{Slots, HoldsByte}
use Rattle.iigs_meaning.specs.Room.{CountsBelow, IsRoom}
use Rattle.iigs_meaning.specs.Room.CountsBelow.{none as none_below, one_more as one_below, no_more as not_below}
use Rattle.iigs_meaning.specs.Puts.{LacksRoom, placed_block}
use Rattle.iigs_meaning.specs.Blocks.{AreApart, state_of}
use Rattle.iigs_meaning.specs.Slide.{PurgesOrSlides, Slides, AreSettled, count_moved}
use Rattle.loader_machine.specs.Rule.{RoomRule}
use Rattle.loader_machine.specs.declared.faults.LoaderFault.TheVariants.{CannotRead, BadFile, NoHandle, NoRoom, Stale}
use Rattle.loader_machine.specs.Found.{HoldsFile, FileFound, Unread, Bad, Good, IsFound, Joined, Stops, Joins, joined_after, AreJoined}
use Rattle.loader_machine.specs.State.{Machine}
use Rattle.loader_machine.specs.Commands.{Reply, Okay, Placed, BlockIs, RoomIs, Moved, Refused}
use Rattle.loader_machine.specs.Refusals.{Refuse, state_refusal, free_refusal, change_refusal}
use Rattle.loader_machine.specs.Steps.{Decides, with_slots, with_block_changed, StepsAlloc, IsPlaced, HasNoHandle, HasNoRoom, StepsChange}
use Rattle.answers.specs.Commands.{HoldBytes}
use Rattle.answers.specs.laws.Decisions.{Decided}
use Rattle.answers.specs.laws.LoadAnswers.{LoadAnswer, load_files_are_answered, RuntimeAnswer, runtime_files_are_answered}
use Rattle.answers.proofs.Deciding.{both, refutes, at_most, all_below, same_as}
use Rattle.answers.proofs.Rooms.{free_or_not, holds_or_not, room_or_none, slide_ends}

-- ---- files

abbrev some_file : List ℕ → Option (List ℕ)
some_file file = Some file

-- a path holds a file that can be read, or none
abbrev CanRead : FileMap → List ℕ → Type 0
CanRead held path = ((file : List ℕ) × HoldsFile held path file) ⊎ ((file : List ℕ) → HoldsFile held path file → ⊥)

can_read : (held : FileMap) (path : List ℕ) → CanRead held path
can_read held path = by_file (get held path) refl
  where
    none_some : (file : List ℕ) → None ≡ some_file file → ⊥
    none_some file e = cc

    by_file : (o : Option (List ℕ)) → get held path ≡ o → ((file : List ℕ) × HoldsFile held path file) ⊎ ((file : List ℕ) → HoldsFile held path file → ⊥)
    by_file None is = inr (λ file holds. none_some file (sym is ∙ holds.0))
    by_file (Some file) is = elim (at_most (length file) max_file) [
      | inl short ↦ inl (file, (is, short))
      | inr long ↦ inr (λ other holds. long (subst (λ (f : List ℕ). length f ≤ max_file) (same_Some other file (sym holds.0 ∙ is)) holds.1))
    ]

pub found_or : (held : FileMap) (path : List ℕ) → HoldBytes held → (found : FileFound) × IsFound held path found
found_or held path fits = by_read (can_read held path)
  where
    by_load : (file : List ℕ) → HoldsFile held path file → LoadAnswer file → (found : FileFound) × IsFound held path found
    by_load file is (inl loaded) = (Good loaded.0, record { file = file; is_held = is; loadable = loaded.1 })
    by_load file is (inr fault) = (Bad fault.0, record { file = file; is_held = is; first = fault.1 })

    by_read : ((file : List ℕ) × HoldsFile held path file) ⊎ ((file : List ℕ) → HoldsFile held path file → ⊥) → (found : FileFound) × IsFound held path found
    by_read (inr none) = (Unread, none)
    by_read (inl read) = by_load read.0 read.1 (load_files_are_answered read.0 (fits path read.0 read.1.0))

pub joined_or : (held : FileMap) (paths : List (List ℕ)) → HoldBytes held → (joined : Joined) × AreJoined held paths joined
joined_or held [] fits = (Joins [], refl)
joined_or held (path ∷ paths) fits = by_read (can_read held path) (joined_or held paths fits)
  where
    by_runtime : (file : List ℕ) → HoldsFile held path file → RuntimeAnswer file → (joined : Joined) × AreJoined held paths joined → (joined : Joined) × AreJoined held (path ∷ paths) joined
    by_runtime file is (inl read) rest = (joined_after read.0 rest.0, (Good read.0, record { file = file; is_held = is; runtime = read.1 }, (rest.0, rest.1, refl)))
    by_runtime file is (inr fault) rest = (Stops 1 (BadFile fault.0), (Bad fault.0, record { file = file; is_held = is; first = fault.1 }, refl))

    by_read : ((file : List ℕ) × HoldsFile held path file) ⊎ ((file : List ℕ) → HoldsFile held path file → ⊥) → (joined : Joined) × AreJoined held paths joined → (joined : Joined) × AreJoined held (path ∷ paths) joined
    by_read (inr none) rest = (Stops 1 CannotRead, (Unread, none, refl))
    by_read (inl read) rest = by_runtime read.0 read.1 (runtime_files_are_answered read.0 (fits path read.0 read.1.0)) rest

-- ---- the script's own blocks

-- a refusal, or what else is done
pub decide_by : (refuse : Refuse) (state : Machine) (Done : Reply → Machine → Type 0) → (refuse ≡ None → (reply : Reply) × (next : Machine) × Done reply next)
    → (reply : Reply) × (next : Machine) × Decides refuse state reply next (Done reply next)
decide_by None state Done go = go refl
decide_by (Some fault) state Done go = (Refused fault, state, (refl, refl))

pub alloc_or : (state : Machine) (want : Want) (locked : Bool) (level : ℕ) (movable : Bool) → AreApart state.banks state.slots → AreSettled state.banks state.slots → 0 < want.size
    → (reply : Reply) × (next : Machine) × StepsAlloc RoomRule state want locked level movable reply next
alloc_or state want locked level movable apart settled some = by_handle (new_handle state.slots) refl (room_or_none state.banks state.slots want apart settled some)
  where
    by_handle : (o : Option Handle) → new_handle state.slots ≡ o → ((address : ℕ) × (room : Slots) × PurgesOrSlides state.banks state.slots want address room) ⊎ LacksRoom PurgesOrSlides state.banks state.slots want
        → (reply : Reply) × (next : Machine) × StepsAlloc RoomRule state want locked level movable reply next
    by_handle None is room = (Refused NoHandle, state, HasNoHandle is refl refl)
    by_handle (Some h) is (inr lacks) = (Refused (NoRoom 0), state, HasNoRoom (ap (λ (o : Option Handle). is_some o) is) lacks refl refl)
    by_handle (Some h) is (inl made) =
        let slots = after_take made.1 (placed_block want made.0 0 locked level movable) in (
          Placed h made.0,
          with_slots state slots,
          IsPlaced h slots (record { address = made.0; room = made.1; makes = made.2; handle = is; next_is = refl }) refl refl,
        )

pub change_or : (state : Machine) (h : Handle) (change : Block → Block) → (reply : Reply) × (next : Machine) × StepsChange state h change reply next
change_or state h change = decide_by (change_refusal state.slots h) state (λ reply next. (reply ≡ Okay) × (next ≡ with_slots state (with_block_changed change state.slots h)))
    (λ none. (Okay, with_slots state (with_block_changed change state.slots h), (refl, refl)))

pub free_or : (state : Machine) (h : Handle)
    → (reply : Reply) × (next : Machine) × Decides (free_refusal state.slots h) state reply next ((reply ≡ Okay) × (next ≡ with_slots state (after_release state.slots h)))
free_or state h = decide_by (free_refusal state.slots h) state (λ reply next. (reply ≡ Okay) × (next ≡ with_slots state (after_release state.slots h)))
    (λ none. (Okay, with_slots state (after_release state.slots h), (refl, refl)))

pub state_or : (state : Machine) (h : Handle) → (reply : Reply) × (next : Machine)
    × Decides (state_refusal state.slots h) state reply next ((block : Block) × (block_of state.slots h ≡ Some block) × (reply ≡ BlockIs (state_of block)) × (next ≡ state))
unfolding state_refusal
state_or state h = by_block (block_of state.slots h) refl
  where
    by_block : (o : Option Block) → block_of state.slots h ≡ o → (reply : Reply) × (next : Machine)
        × Decides (state_refusal state.slots h) state reply next ((block : Block) × (block_of state.slots h ≡ Some block) × (reply ≡ BlockIs (state_of block)) × (next ≡ state))
    by_block (Some block) is = (BlockIs (state_of block), state, rw is (block, refl, refl, refl))
    by_block None is = (Refused Stale, state, rw is (refl, refl))

-- ---- room

count_or : (P : ℕ → Type 0) (limit : ℕ) → ((i : ℕ) → Decided (P i)) → (count : ℕ) × CountsBelow P limit count
count_or P zero decide = (0, none_below)
count_or P (suc limit) decide = by_last (count_or P limit decide) (decide limit)
  where
    by_last : (count : ℕ) × CountsBelow P limit count → Decided (P limit) → (count : ℕ) × CountsBelow P (suc limit) count
    by_last rest (inl has) = (suc rest.0, one_below limit rest.0 rest.1 has)
    by_last rest (inr none) = (rest.0, not_below limit rest.0 rest.1 none)

room_or_not : (banks : List ℕ) (slots : Slots) (address : ℕ) → Decided (IsRoom banks slots address)
room_or_not banks slots address = same_as
    (λ all. record {
      free = all.0;
      no_block = λ place held. elim (cases_lt place (length slots)) [
        | inl within ↦ all.1 place within held
        | inr past ↦ subst (HoldsByte address) (get_or_past slots place new_slot past) held
      ];
    })
    (λ (room : IsRoom banks slots address). (room.free, λ place within. room.no_block place))
    (both (free_or_not banks address) (all_below (λ place. HoldsByte address (slot_at slots place) → ⊥) (length slots) (λ place. refutes (holds_or_not address (slot_at slots place)))))

pub room_step : (state : Machine) → (reply : Reply) × (next : Machine) × ((count : ℕ) × CountsBelow (IsRoom state.banks state.slots) (2 ^ 24) count × (reply ≡ RoomIs count) × (next ≡ state))
room_step state =
    let counted = count_or (IsRoom state.banks state.slots) (2 ^ 24) (room_or_not state.banks state.slots) in
    (RoomIs counted.0, state, (counted.0, counted.1, refl, refl))

pub compact_step : (state : Machine) → AreApart state.banks state.slots → AreSettled state.banks state.slots
    → (reply : Reply) × (next : Machine) × ((slots : Slots) × Slides state.banks state.slots slots × (reply ≡ Moved (count_moved state.slots slots)) × (next ≡ with_slots state slots))
compact_step state apart settled =
    let slid = slide_ends state.banks state.slots apart settled in
    (Moved (count_moved state.slots slid.0), with_slots state slid.0, (slid.0, slid.1, refl, refl))
