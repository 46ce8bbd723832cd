-- Commands on users have replies.
use Rattle.std.proofs.Common.{◌≡◌, ◌⊎◌, inl, inr, ℕ, zero, suc, ◌+◌, Bool, true, false, cond, List, ◌∷◌, ◌++◌, length, map, Option, Some, None, refl, sym, ap, subst, ◌∙◌}
use Rattle.std.specs.Prelude.{option_map}
use Rattle.std.specs.Option.{is_some}
use Rattle.omf_format.specs.File.{Segment, segment_at}
use Rattle.omf_io.specs.Files.{FileMap}
use Rattle.load_meaning.specs.Pathnames.{paths_of}
use Rattle.iigs_meaning.specs.declared.handles.Handle.{Handle}
use Rattle.iigs_meaning.specs.declared.wants.Block.{Block}
use Rattle.iigs_meaning.specs.Slots.{get, new_handle, after_take, with_value}
use Rattle.iigs_meaning.specs.Fits.{Slots}
use Rattle.iigs_meaning.specs.Puts.{LacksRoom, placed_block, without_user}
use Rattle.iigs_meaning.specs.Blocks.{AreApart}
use Rattle.iigs_meaning.specs.Slide.{PurgesOrSlides, AreSettled}
use Rattle.iigs_places.proofs.Starts.{start_sound}
use Rattle.iigs_compact_memory.proofs.Settled.{settled_for}
use Rattle.loader_machine.specs.Rule.{RoomRule}
use Rattle.loader_machine.specs.declared.seen.SegmentHead.{SegmentHead}
use Rattle.loader_machine.specs.declared.seen.Life.TheVariants.{Running}
use Rattle.loader_machine.specs.declared.seen.Presence.{Presence}
use Rattle.loader_machine.specs.declared.seen.Presence.TheVariants.{Absent, Purged, Idle, Active}
use Rattle.loader_machine.specs.declared.faults.LoaderFault.TheVariants.{CannotRead, BadFile, NoHandle, NoRoom, NoSegment, NotRunning}
use Rattle.loader_machine.specs.Heads.{head_of, at_number, want_of}
use Rattle.loader_machine.specs.Presences.{presence, presence_at, handle_at, lies_in, lies_at}
use Rattle.loader_machine.specs.Found.{FileFound, Unread, Bad, Good, IsFound, Joined, Stops, Joins, AreJoined}
use Rattle.loader_machine.specs.State.{User, UserSeen, Machine, is_running, first_id, user_of, with_user, handles_of, with_all, ids_from, fresh}
use Rattle.loader_machine.specs.Commands.{Reply, Okay, Started, Refused}
use Rattle.loader_machine.specs.Refusals.{Refuse, of_running, of_segment, load_refusal, rows_refusal}
use Rattle.loader_machine.specs.Steps.{Sees, IsSeen, Decides, Does, seen_of, with_slots, with_both, with_segment, active_block, with_block_changed, changed_all, entry_of, Begins, joined_users, lost_refusal, StepsLoad, OutOfSlots, OutOfRoom, Made, MakesActive, StandsIn, StepsShutDown, are_there, static_handles, read_again, StepsRestart}
use Rattle.loader_agrees.specs.Agrees.{Loaded, Agrees, seen_by}
use Rattle.loader_agrees.specs.laws.Lists.{number_map}
use Rattle.loader_agrees.specs.laws.Seeing.{is_seen}
use Rattle.answers.proofs.Rooms.{room_or_none}
use Rattle.answers.proofs.Placements.{want_is, begins_or_lacks}
use Rattle.answers.specs.Commands.{HoldBytes}
use Rattle.answers.proofs.Replying.{found_or, joined_or, decide_by}

-- ---- what a refusal that isn't one says

pub no_refusal : {A : Type 0} (x : A) → Some x ≡ None → ⊥
no_refusal x e = cc

pub ran : (seen : UserSeen) (rest : Refuse) → of_running seen rest ≡ None → rest ≡ None
ran seen rest e = by_life (is_running seen.life) e
  where
    by_life : (b : Bool) → cond b rest (Some NotRunning) ≡ None → rest ≡ None
    by_life true e = e
    by_life false e = absurd (no_refusal NotRunning e)

pub same_number : (segments : List Segment) (number : ℕ) → at_number segments number ≡ segment_at segments number
same_number segments zero = refl
same_number segments (suc k) = refl

-- the segment is there
pub there : (user : User) (segments : List Segment) (number : ℕ) (rest : SegmentHead → Refuse) → of_segment (seen_of user segments) number rest ≡ None → (s : Segment) × (segment_at segments number ≡ Some s)
there user segments number rest e = by_segment (segment_at segments number) refl
  where
    by_head : (o : Option SegmentHead) → at_number (map head_of segments) number ≡ o → o ≡ None → ⊥
    by_head (Some head) is none = no_refusal head none
    by_head None is none = no_refusal NoSegment (rw (is, of_segment) at e)

    by_segment : (o : Option Segment) → segment_at segments number ≡ o → (s : Segment) × (segment_at segments number ≡ Some s)
    by_segment (Some s) is = (s, is)
    by_segment None is = absurd (by_head (at_number (map head_of segments) number) refl (number_map head_of segments number ∙ ap (option_map head_of) (same_number segments number ∙ is)))

-- ---- activation

-- the handle of a purged segment is live, and its block empty
record IsEmpty (slots : Slots) (h : Handle) : Type 0 where
  block : Block
  was : get slots h ≡ Some block
  empty : block.at ≡ None

purged_is : (slots : Slots) (o : Option Handle) (h : Handle) → presence slots o ≡ Purged h → IsEmpty slots h
purged_is slots None h e = absurd cc
purged_is slots (Some k) h e = by_block (get slots k) refl e
  where
    by_place : (block : Block) (at : Option ℕ) (locked : Bool) → get slots k ≡ Some block → block.at ≡ at → lies_at k at locked ≡ Purged h → IsEmpty slots h
    by_place block None locked is empty e = let same : k ≡ h = cc in subst (IsEmpty slots) same (record { block = block; was = is; empty = empty })
    by_place block (Some address) true is empty e = absurd cc
    by_place block (Some address) false is empty e = absurd cc

    by_block : (b : Option Block) → get slots k ≡ b → lies_in k b ≡ Purged h → IsEmpty slots h
    by_block None is e = absurd cc
    by_block (Some block) is e = by_place block block.at block.locked is refl e

module _ (held : FileMap) (loader : Loaded) (state : Machine) (agrees : Agrees held loader state) (apart : AreApart state.banks state.slots) (settled : AreSettled state.banks state.slots) (fits : HoldBytes held) where
  pub active_or : (id number : ℕ) (of : ℕ → Reply) (sees : Sees held state id) (s : Segment) → segment_at sees.segments number ≡ Some s
      → (reply : Reply) × (next : Machine) × MakesActive RoomRule held state id number of reply next
  active_or id number of sees s is =
      by_presence (presence_at state.slots (handles_of sees.user) number) refl (new_handle state.slots) refl (room_or_none state.banks state.slots (want_of (head_of s)) apart settled (want_is (head_of s)).some)
    where
      by_presence : (p : Presence) → presence_at state.slots (handles_of sees.user) number ≡ p → (o : Option Handle) → new_handle state.slots ≡ o
          → ((address : ℕ) × (room : Slots) × PurgesOrSlides state.banks state.slots (want_of (head_of s)) address room) ⊎ LacksRoom PurgesOrSlides state.banks state.slots (want_of (head_of s))
          → (reply : Reply) × (next : Machine) × MakesActive RoomRule held state id number of reply next
      by_presence (Active h address) e o handle room =
          (of address, state, record { sees = sees; s = s; is = is; outcome = Made address state; activates = rw e refl; answers = (refl, refl) })
      by_presence (Idle h address) e o handle room =
          let last = with_slots state (with_block_changed active_block state.slots h) in
          (of address, last, record { sees = sees; s = s; is = is; outcome = Made address last; activates = rw e refl; answers = (refl, refl) })
      by_presence (Purged h) e o handle (inr lacks) =
          (Refused (NoRoom number), state, record { sees = sees; s = s; is = is; outcome = OutOfRoom; activates = rw e lacks; answers = (refl, refl) })
      by_presence (Purged h) e o handle (inl made) =
          let was = purged_is state.slots (handle_at (handles_of sees.user) number) h e in
          let slots = with_value made.1 h (placed_block (want_of (head_of s)) made.0 was.block.user was.block.locked was.block.level false) in
          let last = with_both state id (with_block_changed active_block slots h) (Some (with_segment sees.user number (fresh (Some h)))) in (
            of made.0,
            last,
            record {
              sees = sees;
              s = s;
              is = is;
              outcome = Made made.0 last;
              activates = rw e (
                slots,
                record { block = was.block; was = was.was; empty = was.empty; address = made.0; room = made.1; makes = made.2; next_is = refl },
                refl,
                refl,
              );
              answers = (refl, refl);
            },
          )
      by_presence Absent e None handle room =
          (Refused NoHandle, state, record { sees = sees; s = s; is = is; outcome = OutOfSlots; activates = rw e handle; answers = (refl, refl) })
      by_presence Absent e (Some h) handle (inr lacks) =
          (Refused (NoRoom number), state, record { sees = sees; s = s; is = is; outcome = OutOfRoom; activates = rw e (ap (λ (o : Option Handle). is_some o) handle, lacks); answers = (refl, refl) })
      by_presence Absent e (Some h) handle (inl made) =
          let slots = after_take made.1 (placed_block (want_of (head_of s)) made.0 id true 0 false) in
          let last = with_both state id slots (Some (with_segment sees.user number (fresh (Some h)))) in (
            of made.0,
            last,
            record {
              sees = sees;
              s = s;
              is = is;
              outcome = Made made.0 last;
              activates = rw e (h, slots, record { address = made.0; room = made.1; makes = made.2; handle = handle; next_is = refl }, refl, refl);
              answers = (refl, refl);
            },
          )

  -- ---- a command on a user

  pub user_or : (id : ℕ) (refusal : Option UserSeen → Refuse) (Done : Reply → Machine → User → Type 0) → (refusal None ≡ None → ⊥)
      → ((sees : Sees held state id) → refusal (Some (seen_of sees.user sees.segments)) ≡ None → (reply : Reply) × (next : Machine) × Done reply next sees.user)
      → (reply : Reply) × (next : Machine) × Does held state id refusal reply next (Done reply next)
  user_or id refusal Done nobody go = by_seen (seen_by loader id) (is_seen held loader state agrees id)
    where
      by_refusal : (seen : Option UserSeen) → IsSeen held state id seen → (r : Refuse) → refusal seen ≡ r
          → (r ≡ None → (reply : Reply) × (next : Machine) × (user : User) × (user_of state.users id ≡ Some user) × Done reply next user)
          → (reply : Reply) × (next : Machine) × Does held state id refusal reply next (Done reply next)
      by_refusal seen is (Some fault) e done = (Refused fault, state, record { seen = seen; is_seen = is; is = rw e (refl, refl) })
      by_refusal seen is None e done = let d = done refl in (d.0, d.1, record { seen = seen; is_seen = is; is = rw e (d.2, d.3, d.4) })

      by_seen : (seen : Option UserSeen) → IsSeen held state id seen → (reply : Reply) × (next : Machine) × Does held state id refusal reply next (Done reply next)
      by_seen None is = by_refusal None is (refusal None) refl (λ none. absurd (nobody none))
      by_seen (Some seen) is = by_refusal (Some seen) is (refusal (Some seen)) refl (λ none.
          let done = go is.0 (ap (λ (x : UserSeen). refusal (Some x)) (sym is.1) ∙ none) in
          (done.0, done.1, is.0.user, is.0.made, done.2))

  -- ---- load

  abbrev ByJoined : List ℕ → List Segment → Joined → Reply → Machine → Type 0
  ByJoined path segments joined reply next = elim joined [
    | Stops reads why ↦ (reply ≡ Refused why) × (next ≡ state)
    | Joins all ↦ Decides (lost_refusal (map (map head_of) all) segments) state reply next
        (Begins RoomRule state state.slots path (first_id + length state.users) segments
        (λ user. state.users ++ Some (record user { attached = ids_from (first_id + length state.users + 1) (length (paths_of segments)) }) ∷ joined_users (paths_of segments) all) reply next)
  ]

  by_joined : (path : List ℕ) (segments : List Segment) (joined : Joined) → (reply : Reply) × (next : Machine) × ByJoined path segments joined reply next
  by_joined path segments (Stops reads why) = (Refused why, state, (refl, refl))
  by_joined path segments (Joins all) =
      let users : User → List (Option User) = λ user. state.users ++ Some (record user { attached = ids_from (first_id + length state.users + 1) (length (paths_of segments)) }) ∷ joined_users (paths_of segments) all in
      decide_by (lost_refusal (map (map head_of) all) segments) state (λ reply next. Begins RoomRule state state.slots path (first_id + length state.users) segments users reply next)
      (λ none. begins_or_lacks state state.slots path (first_id + length state.users) segments users apart settled)

  abbrev ByFound : List ℕ → FileFound → Reply → Machine → Type 0
  ByFound path found reply next = elim found [
    | Unread ↦ (reply ≡ Refused CannotRead) × (next ≡ state)
    | Bad fault ↦ (reply ≡ Refused (BadFile fault)) × (next ≡ state)
    | Good segments ↦ Decides (rows_refusal (length state.users) (length (paths_of segments))) state reply next
        ((joined : Joined) × AreJoined held (paths_of segments) joined × ByJoined path segments joined reply next)
  ]

  by_found : (path : List ℕ) (found : FileFound) → (reply : Reply) × (next : Machine) × ByFound path found reply next
  by_found path Unread = (Refused CannotRead, state, (refl, refl))
  by_found path (Bad fault) = (Refused (BadFile fault), state, (refl, refl))
  by_found path (Good segments) =
      decide_by (rows_refusal (length state.users) (length (paths_of segments))) state
      (λ reply next. (joined : Joined) × AreJoined held (paths_of segments) joined × ByJoined path segments joined reply next)
      (λ none.
      let joined = joined_or held (paths_of segments) fits in
      let step = by_joined path segments joined.0 in
      (step.0, step.1, (joined.0, joined.1, step.2)))

  pub load_or : (path : List ℕ) → (reply : Reply) × (next : Machine) × StepsLoad RoomRule held state path reply next
  load_or path = decide_by (load_refusal (length state.users)) state (λ reply next. (found : FileFound) × IsFound held path found × ByFound path found reply next)
      (λ none.
      let found = found_or held path fits in
      let step = by_found path found.0 in
      (step.0, step.1, (found.0, found.1, step.2)))

  -- ---- restart

  pub restart_or : (id : ℕ) → Sees held state id → (reply : Reply) × (next : Machine) × StepsRestart RoomRule held state id reply next
  restart_or id sees = by_there (are_there state.slots (map head_of sees.segments) (handles_of sees.user) 1) refl
    where
      by_there : (b : Bool) → are_there state.slots (map head_of sees.segments) (handles_of sees.user) 1 ≡ b → (reply : Reply) × (next : Machine) × StepsRestart RoomRule held state id reply next
      by_there true e =
          let heads = map head_of sees.segments in
          let slots = changed_all active_block state.slots (static_handles heads (handles_of sees.user) 1) in
          let runs : User → User = λ one. record one { life = Running } in (
            Started id (entry_of id slots heads (handles_of sees.user)),
            record {
              banks = state.banks;
              slots = slots;
              users = with_all runs (with_user state.users id (Some (record sees.user { life = Running; segments = read_again heads sees.user.segments }))) sees.user.attached;
            },
            record { sees = sees; is = rw e (refl, refl) },
          )
      by_there false e =
          let runs : User → User = λ one. record one { life = Running } in
          let began = begins_or_lacks state (without_user state.slots id) sees.user.path id sees.segments
          (λ new. with_all runs (with_user state.users id (Some (record new { attached = sees.user.attached }))) sees.user.attached)
          (start_sound state.banks state.slots id true apart) (settled_for state.banks state.slots id true settled) in
          (began.0, began.1, record { sees = sees; is = rw e began.2 })

  -- ---- the others

  pub shut_down_or : (id : ℕ) (keep : Bool) (user : User) → (reply : Reply) × (next : Machine) × ((reply ≡ Okay) × StepsShutDown state id keep user next)
  shut_down_or id true user = (Okay, _, (refl, refl))
  shut_down_or id false user = (Okay, _, (refl, refl))

  pub stands_in : (id number : ℕ) (sees : Sees held state id) (s : Segment) → segment_at sees.segments number ≡ Some s → (bytes : List ℕ) × StandsIn held state id number bytes
  stands_in id number sees s is = (_, record { sees = sees; s = s; is = is; bytes_are = refl })
