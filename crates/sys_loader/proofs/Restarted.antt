-- A program that is restarted is the machine's step.
use Rattle.std.proofs.Common.{◌≡◌, inl, inr, ℕ, zero, suc, Bool, true, false, ◌-◌, ◌<◌, List, [], ◌∷◌, length, map, Option, Some, None, Result, Ok, Err, refl, sym, ap, subst, ◌∙◌, arith}
use Rattle.std.specs.Prelude.{not, ◌||◌, IsSomeAnd, slice_get}
use Rattle.std.specs.Option.{option_map, option_map_or}
use Rattle.std.specs.FinMap as maps
use Rattle.std.proofs.lemmas.Bool.{or_parts, cases_eq}
use Rattle.std.proofs.lemmas.Option.{same_Some}
use Rattle.omf_format.specs.File.{Segment}
use Rattle.omf_io.specs.Files.{FileMap, IsRead, IsUnread, max_file}
use Rattle.load_meaning.specs.declared.load.LoadFault.{LoadFault}
use Rattle.load_meaning.specs.Loadable.{IsLoadable, IsFirstLoadFault}
use Rattle.iigs_meaning.specs.declared.faults.PlaceFault.{PlaceFault}
use Rattle.iigs_meaning.specs.declared.faults.PlaceFault.TheVariants as place
use Rattle.iigs_meaning.specs.Fits.{Slots}
use Rattle.iigs_meaning.specs.Puts.{IsPlaceAllRefusal, without_user}
use Rattle.loader_machine.specs.Rule.{RoomRule}
use Rattle.iigs_meaning.specs.Memory.{Memory}
use Rattle.loader_machine.specs.declared.faults.LoaderFault.{LoaderFault}
use Rattle.loader_machine.specs.declared.faults.LoaderFault.TheVariants as fault
use Rattle.loader_machine.specs.declared.seen.SegmentHead.{SegmentHead}
use Rattle.loader_machine.specs.Heads.{head_of, at_number, wants_of}
use Rattle.loader_machine.specs.State.{Machine, UserSeen, first_id, user_of, with_user, handles_of, outlines, attached_at, is_attached}
use Rattle.loader_machine.specs.Found.{HoldsLoad, Bad, Good}
use Rattle.loader_machine.specs.laws.OnceLaws.{one_load, found_once}
use Rattle.loader_machine.specs.Commands.{Reply, Started, Restart, Refused}
use Rattle.loader_machine.specs.Refusals.{Refuse, restart_refusal}
use Rattle.loader_machine.specs.Steps.{Sees, seen_of, NoSlots, Lacks, Begins, Either, StepsRestart, Steps, active_block, changed_all, are_there, static_handles, is_read_again, entry_of, lost_refusal}
use Rattle.loader_machine.specs.laws.Words.{again_users}
use Rattle.loader_machine.specs.laws.Words as words
use Rattle.loader_machine.specs.Needs.{Needs, some_read_again, path_if}
use Rattle.loader_agrees.specs.Agrees.{LoadedUser, Loaded, Outline, kept_outlines, AreAttached, seen_in, seen_by, Agrees, IsSound, Meets}
use Rattle.loader_agrees.specs.laws.Seeing.{IsKept, kept_is, made_at, refuses, does}
use Rattle.sys_loader.specs.declared.answers.Started as answers
use Rattle.sys_loader.specs.Replies.{load_reply}
use Rattle.sys_loader.specs.Calls.{IsBeginRefusal}
use Rattle.sys_loader.specs.Restarting.{CanRestart, is_whole, restart_reads, AreReread, HasResumed, released_memory, HasBegunAnew, HasRestarted, InPlace, Reread, Anew, IsAgainRefusal, IsRestartRefusal, IsStopped, CantRead, LacksMemory, CantRestart, DidRestart}
use Rattle.loader_users.specs.Users.{kept_heads}
use Rattle.sys_loader.proofs.Activated.{not_changed}
use Rattle.sys_loader.proofs.Resuming.{quiet_reread, resumed_agrees}
use Rattle.sys_loader.proofs.Again.{next, begun_anew_agrees, begins_anew}
use Rattle.loader_users.specs.Users.{HasItsUsers}
use Rattle.loader_users.proofs.Families.{user_set, user_apart}
use Rattle.sys_loader.proofs.Leading.{no_row}
use Rattle.loader_users.proofs.Losing.{entries_none}
use Rattle.sys_loader.proofs.Reloading.{restart_alone}

-- where none is read again, no header is of such a segment
none_again : (heads : List SegmentHead) (n : ℕ) (head : SegmentHead) → some_read_again heads ≡ false → at_number heads n ≡ Some head → is_read_again head ≡ true → ⊥
none_again heads zero head none found again = absurd cc
none_again heads (suc k) head none found again = go heads k none found
  where
    go : (gs : List SegmentHead) (i : ℕ) → some_read_again gs ≡ false → slice_get gs i ≡ Some head → ⊥
    go [] i none' e = absurd cc
    go (g ∷ gs) zero none' e =
        let both = or_parts (is_read_again g) (some_read_again gs) none' in
        let clash : true ≡ false = sym again ∙ ap is_read_again (sym (same_Some g head e)) ∙ both.0 in absurd cc
    go (g ∷ gs) (suc i) none' e = go gs i (or_parts (is_read_again g) (some_read_again gs) none').1 e

-- those that are attached to a user are there where it is another
pub its_there : (users : List (Option LoadedUser)) → AreAttached users → (id : ℕ) (k b : LoadedUser) → user_of users id ≡ Some k → b.attached ≡ k.attached → HasItsUsers (with_user users id (Some b)) id
its_there users attached id k b made same = λ now place n is row.
    let one : now ≡ b = same_Some now b (sym is ∙ user_set users id k made (Some b)) in
    let row' : slice_get k.attached place ≡ Some n = ap (λ (ns : List ℕ). slice_get ns place) (sym (ap (λ (x : LoadedUser). x.attached) one ∙ same)) ∙ row in
    let other = attached.each (id - first_id) place n k (made_at users id k made).0 row' in
    elim (cases_eq n id) [
      | inl eq ↦ (let there : user_of (with_user users id (Some b)) n ≡ Some b = ap (user_of (with_user users id (Some b))) eq ∙ user_set users id k made (Some b) in rw there refl)
      | inr ne ↦ (let there : user_of (with_user users id (Some b)) n ≡ Some other.0 = user_apart users id k made (Some b) n ne ∙ other.1 in rw there refl)
    ]

-- no row names a user that can be restarted
pub can_top : (old : Loaded) (id : ℕ) (kept : LoadedUser) → IsSound old.memory old.users → CanRestart old id kept → (q f : ℕ) → attached_at (kept_outlines old.users) q f ≡ Some id → ⊥
can_top old id kept sound can = no_row old.users id kept sound.attached can.made (restart_alone (is_attached (kept_outlines old.users) id) (seen_by old id) can.passes)

module _ (held : FileMap) (old : Loaded) (state : Machine) (id : ℕ) (sound : IsSound old.memory old.users) (agrees : Agrees held old state) (kept : LoadedUser) (can : CanRestart old id kept) where
  abbrev is : IsKept held old state agrees id kept
  is = kept_is held old state agrees id kept can.made

  path_same : kept.path ≡ is.user.path
  path_same = ap (λ (o : Outline). o.path) is.does_agree.same

  abbrev sees : Sees held state id
  sees = record { user = is.user; made = is.made; segments = is.does_agree.segments; holds = subst (λ (p : List ℕ). HoldsLoad held p is.does_agree.segments) path_same is.does_agree.holds }

  whole_same : is_whole old kept ≡ are_there state.slots (map head_of is.does_agree.segments) (handles_of is.user) 1
  whole_same =
      ap (λ (t : Slots). are_there t kept.heads kept.handles 1) agrees.slots ∙ ap (λ (hs : List SegmentHead). are_there state.slots hs kept.handles 1) is.does_agree.heads
      ∙ ap (λ (o : Outline). are_there state.slots (map head_of is.does_agree.segments) o.handles 1) is.does_agree.same

  -- as the machine has it
  passes_there : restart_refusal (is_attached (outlines state.users) id) (seen_by old id) ≡ None
  passes_there = ap (λ (os : List (Option Outline)). restart_refusal (is_attached os id) (seen_by old id)) (sym agrees.users) ∙ can.passes

  -- no row names the user
  top : (q f : ℕ) → attached_at (kept_outlines old.users) q f ≡ Some id → ⊥
  top = can_top old id kept sound can

  step : (reply : Reply) (next : Machine) → StepsRestart RoomRule held state id reply next → Steps RoomRule held state (Restart id) reply next
  step reply next steps = does held old state agrees id (restart_refusal (is_attached (outlines state.users) id)) reply next (λ user. StepsRestart RoomRule held state id reply next) passes_there is.user is.made steps

  in_place_yes : (b : Bool) (P Q : Type 0) → b ≡ true → P → Either b P Q
  in_place_yes b P Q whole p = rw whole p

  in_place_no : (b : Bool) (P Q : Type 0) → b ≡ false → Q → Either b P Q
  in_place_no b P Q gone q = rw gone q

  -- the path is needed where the file has to be read
  needs_path : restart_reads old id ≡ true → Needs held state (Restart id) (is.user.path ∷ [])
  needs_path reads =
      let seen_same : seen_in kept ≡ seen_of is.user is.does_agree.segments = same_seen in
      let passes : restart_refusal (is_attached (outlines state.users) id) (Some (seen_of is.user is.does_agree.segments)) ≡ None =
      ap (λ (s : UserSeen). restart_refusal (is_attached (outlines state.users) id) (Some s)) (sym seen_same) ∙ ap (restart_refusal (is_attached (outlines state.users) id)) (sym (ap (option_map seen_in) can.made)) ∙ passes_there in
      let here : words.restart_reads state (seen_of is.user is.does_agree.segments) ≡ true =
      ap (λ (b : Bool). not b || some_read_again (map head_of is.does_agree.segments)) (sym whole_same)
      ∙ ap (λ (hs : List SegmentHead). not (is_whole old kept) || some_read_again hs) (sym is.does_agree.heads)
      ∙ sym (ap (λ (o : Option LoadedUser). option_map_or (λ k. not (is_whole old k) || some_read_again k.heads) o false) can.made) ∙ reads in
      inr (
        sees,
        sym (ap (λ (r : Refuse). path_if r (words.restart_reads state (seen_of is.user is.does_agree.segments)) is.user.path) passes ∙ ap (λ (b : Bool). path_if None b is.user.path) here),
      )
    where
      same_seen : seen_in kept ≡ seen_of is.user is.does_agree.segments
      same_seen =
          let life : kept.life ≡ is.user.life = ap (λ (o : Outline). o.life) is.does_agree.same in
          let handles : kept.handles ≡ handles_of is.user = ap (λ (o : Outline). o.handles) is.does_agree.same in
          let heads : kept.heads ≡ map head_of is.does_agree.segments = is.does_agree.heads in
          cc

  same_load : (file : List ℕ) (segments : List Segment) → IsRead (Some held) kept.path file → IsLoadable file segments → is.does_agree.segments ≡ segments
  same_load file segments is_read taken =
      one_load held kept.path is.does_agree.segments segments is.does_agree.holds (record { file = file; is_held = (is_read.1, is_read.0); loadable = taken })

  not_bad : (file : List ℕ) (bad : LoadFault) → IsRead (Some held) kept.path file → IsFirstLoadFault file bad → ⊥
  not_bad file bad is_read first =
      let same : Bad bad ≡ Good is.does_agree.segments =
      found_once held kept.path (Bad bad) (Good is.does_agree.segments) (record { file = file; is_held = (is_read.1, is_read.0); first = first }) is.does_agree.holds in
      absurd cc

  -- no entry of its table is lost
  none_lost : lost_refusal (kept_heads old.users kept.attached) is.does_agree.segments ≡ None
  none_lost = entries_none old.users (id - first_id) kept held is.does_agree.segments is.does_agree.holds sound.attached agrees.entries (made_at old.users id kept can.made).0

  -- ---- it runs again

  resumed : (new : Loaded) (started : answers.Started) (middle : Memory) (now : ℕ) → is_whole old kept ≡ true → AreReread is.does_agree.segments id kept old.memory middle → HasResumed middle old.users id kept started new
      → Meets RoomRule held state (Restart id) (Started started.user started.entry) new now now
  resumed new started middle now whole reread did =
      let slots = changed_all active_block state.slots (static_handles (map head_of is.does_agree.segments) (handles_of is.user) 1) in
      let slots_are : new.memory.slots ≡ slots =
      did.slots ∙ ap (λ (t : Slots). changed_all active_block t (static_handles kept.heads kept.handles 1)) (reread.slots ∙ agrees.slots)
      ∙ ap (λ (hs : List SegmentHead). changed_all active_block state.slots (static_handles hs kept.handles 1)) is.does_agree.heads
      ∙ ap (λ (o : Outline). changed_all active_block state.slots (static_handles (map head_of is.does_agree.segments) o.handles 1)) is.does_agree.same in
      let entry : started.entry ≡ entry_of id slots (map head_of is.does_agree.segments) (handles_of is.user) =
      did.entry ∙ ap (λ (t : Slots). entry_of id t kept.heads kept.handles) slots_are ∙ ap (λ (hs : List SegmentHead). entry_of id slots hs kept.handles) is.does_agree.heads
      ∙ ap (λ (o : Outline). entry_of id slots (map head_of is.does_agree.segments) o.handles) is.does_agree.same in
      inl (
        (
          _,
          step (Started started.user started.entry) _ (record {
            sees = sees;
            is = in_place_yes _ _ _ (sym whole_same ∙ whole) (ap (λ (n : ℕ). Started n started.entry) did.user ∙ ap (λ (e : Option ℕ). Started id e) entry, refl);
          }),
          resumed_agrees old new id kept started sound can.made can.rests top whole middle (quiet_reread is.does_agree.segments id kept old.memory middle reread) did is.does_agree.segments reread held state agrees refl,
        ),
        refl,
      )

  rows_are : is.user.attached ≡ kept.attached
  rows_are = ap (λ (o : Outline). o.attached) (sym is.does_agree.same)

  begun : (new : Loaded) (started : answers.Started) (now : ℕ) → is_whole old kept ≡ false → HasBegunAnew old id kept is.does_agree.segments started new
      → Meets RoomRule held state (Restart id) (Started started.user started.entry) new now now
  begun new started now gone did =
      let same : map head_of is.does_agree.segments ≡ kept.heads = sym is.does_agree.heads in
      let then_next = next old new id kept is.does_agree.segments started sound can.made can.rests top same did held state agrees is.does_agree.holds in
      inl (
        (
          then_next,
          subst (λ (n : ℕ). Steps RoomRule held state (Restart id) (Started n started.entry) then_next) (sym did.user)
              (step (Started id started.entry) then_next (record {
                sees = sees;
                is = in_place_no _ _ _ (sym whole_same ∙ gone) (subst (λ (p : List ℕ). Begins RoomRule state (without_user state.slots id) p id is.does_agree.segments (again_users state id is.user) (Started id started.entry) then_next) path_same
                    (begins_anew old new id kept is.does_agree.segments started sound can.made can.rests top same did held state agrees is.does_agree.holds is.user rows_are));
              })),
          begun_anew_agrees old new id kept is.does_agree.segments started sound can.made can.rests top same did held state agrees is.does_agree.holds,
        ),
        refl,
      )

  restarted : (new : Loaded) (started : answers.Started) (now : ℕ) → HasRestarted (Some held) old id kept started new → Meets RoomRule held state (Restart id) (Started started.user started.entry) new now now
  restarted new started now (InPlace whole none did) = resumed new started old.memory now whole (record {
    banks = refl;
    slots = refl;
    begins = λ n s h found again has. absurd (none_again kept.heads n (Rattle.loader_machine.specs.Heads.head_of s) none
        (ap (λ (hs : List SegmentHead). at_number hs n) is.does_agree.heads ∙ Rattle.loader_agrees.specs.laws.Reads.head_at is.does_agree.segments n s found) again);
    stay = λ slot apart. refl;
    sizes = λ slot. refl;
  }) did
  restarted new started now (Reread whole some file is_read segments taken none same middle reread did) =
      let ours = same_load file segments is_read taken in
      resumed new started middle now whole (subst (λ (ss : List Segment). AreReread ss id kept old.memory middle) (sym ours) reread) did
  restarted new started now (Anew gone file is_read segments taken none same did) =
      let ours = same_load file segments is_read taken in
      begun new started now gone (subst (λ (ss : List Segment). HasBegunAnew old id kept ss started new) (sym ours) did)

  -- ---- it doesn't

  absent : maps.get held kept.path ≡ None → ⊥
  absent none = let clash : None ≡ Some is.does_agree.holds.file = sym none ∙ is.does_agree.holds.is_held.0 in absurd cc

  too_long : IsSomeAnd (maps.get held kept.path) (λ bytes. max_file < length bytes) → ⊥
  too_long long = let more : max_file < length is.does_agree.holds.file = rw is.does_agree.holds.is_held.0 at long in omega (arith, more, is.does_agree.holds.is_held.1)

  unread : (why : LoaderFault) (before now : ℕ) → restart_reads old id ≡ true → IsUnread (Some held) kept.path before now → why ≡ fault.CannotRead → Meets RoomRule held state (Restart id) (Refused why) old before now
  unread why before now reads (inl none) is_why = absurd (absent none.0)
  unread why before now reads (inr (inl long)) is_why = absurd (too_long long.0)
  unread why before now reads (inr (inr rose)) is_why = inr (inl (ap (λ (f : LoaderFault). Refused f) is_why, is.user.path ∷ [], needs_path reads, (λ none. absurd cc), agrees, rose))

  none_begins : (why : LoaderFault) → IsBeginRefusal (released_memory old.memory id) id kept.heads why
      → Begins RoomRule state (without_user state.slots id) is.user.path id is.does_agree.segments (again_users state id is.user) (Refused why) state
  none_begins why refusal = go refusal
    where
      moved : (f : PlaceFault) → IsPlaceAllRefusal RoomRule old.memory.banks id (without_user old.memory.slots id) (wants_of kept.heads) f
          → IsPlaceAllRefusal RoomRule state.banks id (without_user state.slots id) (wants_of (map head_of is.does_agree.segments)) f
      moved f p =
          subst (λ (hs : List SegmentHead). IsPlaceAllRefusal RoomRule state.banks id (without_user state.slots id) (wants_of hs) f) is.does_agree.heads
          (subst (λ (t : Slots). IsPlaceAllRefusal RoomRule state.banks id (without_user t id) (wants_of kept.heads) f) agrees.slots
          (subst (λ (b : List ℕ). IsPlaceAllRefusal RoomRule b id (without_user old.memory.slots id) (wants_of kept.heads) f) agrees.banks p))

      go : IsBeginRefusal (released_memory old.memory id) id kept.heads why
          → Begins RoomRule state (without_user state.slots id) is.user.path id is.does_agree.segments (again_users state id is.user) (Refused why) state
      go (inl slots) = record { put = NoSlots; is_put = moved place.NoHandle slots.1; lands = (ap (λ (f : LoaderFault). Refused f) slots.0, refl) }
      go (inr room) = record {
        put = Lacks room.0;
        is_put = moved (place.NoRoom room.0) room.2;
        lands = (ap (λ (f : LoaderFault). Refused f) room.1 ∙ ap (λ (hs : List SegmentHead). Refused (fault.NoRoom (Rattle.loader_machine.specs.Heads.number_of 1 hs room.0))) is.does_agree.heads, refl);
      }

  none_again_from : (file : List ℕ) (why : LoaderFault) (now : ℕ) → IsRead (Some held) kept.path file → IsAgainRefusal file old id kept why → Meets RoomRule held state (Restart id) (Refused why) old now now
  none_again_from file why now is_read (inl (inl short)) = inr (inr (ap (λ (f : LoaderFault). Refused f) short, agrees, refl))
  none_again_from file why now is_read (inl (inr bad)) = absurd (not_bad file bad.0 is_read bad.1)
  none_again_from file why now is_read (inr (segments, taken, inl (inl lost))) =
      let same = same_load file segments is_read taken in
      let none : lost_refusal (kept_heads old.users kept.attached) segments ≡ None = subst (λ (ss : List Segment). lost_refusal (kept_heads old.users kept.attached) ss ≡ None) same none_lost in
      let clash : Some why ≡ None = sym lost ∙ none in absurd cc
  none_again_from file why now is_read (inr (segments, taken, inl (inr (none, changes)))) =
      let same = same_load file segments is_read taken in
      absurd (not_changed kept.heads (map head_of segments) why (ap (map head_of) (sym same) ∙ sym is.does_agree.heads) changes)
  none_again_from file why now is_read (inr (segments, taken, inr none)) =
      inl (
        (
          state,
          step (Refused why) state (record { sees = sees; is = in_place_no _ _ _ (sym whole_same ∙ none.1) (none_begins why none.2) }),
          agrees,
        ),
        refl,
      )

module _ (held : FileMap) (old : Loaded) (state : Machine) (id : ℕ) (sound : IsSound old.memory old.users) (agrees : Agrees held old state) where
  restart_refused : (why : LoaderFault) (before now : ℕ) → IsRestartRefusal (Some held) old id before now why → Meets RoomRule held state (Restart id) (Refused why) old before now
  restart_refused why before now (IsStopped is same) =
      subst (λ (n : ℕ). Meets RoomRule held state (Restart id) (Refused why) old before n) (sym same) (inl (
        (state, refuses held old state agrees id (restart_refusal (is_attached (outlines state.users) id)) why _ (ap (λ (os : List (Option Outline)). restart_refusal (is_attached os id) (seen_by old id)) (sym agrees.users) ∙ is), agrees),
        refl,
      ))
  restart_refused why before now (CantRead kept can reads none is_why) = unread held old state id sound agrees kept can why before now reads none is_why
  restart_refused why before now (LacksMemory passes reads short same) = inr (inr (ap (λ (f : LoaderFault). Refused f) short, agrees, same))
  restart_refused why before now (CantRestart kept can reads file is_read none same) =
      subst (λ (n : ℕ). Meets RoomRule held state (Restart id) (Refused why) old before n) (sym same) (none_again_from held old state id sound agrees kept can file why before is_read none)

-- a restart is the machine's step
pub restarts_meet : (store : Option FileMap) (held : FileMap) (old new : Loaded) (state : Machine) (id : ℕ) (result : Result answers.Started LoaderFault) (before now : ℕ) → store ≡ Some held → IsSound old.memory old.users
    → DidRestart store old id result new before now → Agrees held old state → Meets RoomRule held state (Restart id) (load_reply result) new before now
restarts_meet store held old new state id result before now reported sound did agrees = go result (subst (λ (s : Option FileMap). DidRestart s old id result new before now) reported did)
  where
    go : (r : Result answers.Started LoaderFault) → DidRestart (Some held) old id r new before now → Meets RoomRule held state (Restart id) (load_reply r) new before now
    go (Ok started) did' = subst (λ (n : ℕ). Meets RoomRule held state (Restart id) (Started started.user started.entry) new before n) (sym did'.3) (restarted held old state id sound agrees did'.0 did'.1 new started before did'.2)
    go (Err why) did' = subst (λ (l : Loaded). Meets RoomRule held state (Restart id) (Refused why) l before now) (sym did'.1) (restart_refused held old state id sound agrees why before now did'.0)
