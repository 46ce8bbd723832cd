-- A segment that is made active is the machine's step.
use Rattle.std.proofs.Common.{◌≡◌, ◌≢◌, ◌⊎◌, inl, inr, ℕ, Bool, true, false, ◌-◌, ◌<◌, List, [], ◌∷◌, length, map, Option, Some, None, IsSome, Result, Ok, Err, refl, sym, ap, subst, ◌∙◌, arith}
use Rattle.std.specs.Prelude.{IsSomeAnd}
use Rattle.std.specs.Option.{option_map, option_map_or}
use Rattle.std.specs.FinMap as maps
use Rattle.std.proofs.lemmas.Option.{same_Some}
use Rattle.omf_format.specs.File.{Segment, segment_at}
use Rattle.omf_io.specs.Counts.{one_more}
use Rattle.omf_io.specs.Files.{FileMap, IsRead, IsUnread, max_file}
use Rattle.load_meaning.specs.declared.load.LoadFault.{LoadFault}
use Rattle.load_meaning.specs.Loadable.{IsLoadable}
use Rattle.iigs_meaning.specs.declared.handles.Handle.{Handle}
use Rattle.iigs_meaning.specs.declared.wants.Block.{Block}
use Rattle.iigs_meaning.specs.Slots.{get, new_handle}
use Rattle.iigs_meaning.specs.Fits.{Slots}
use Rattle.iigs_meaning.specs.Puts.{LacksRoom, Puts, PutsAnew}
use Rattle.loader_machine.specs.Rule.{RoomRule}
use Rattle.iigs_meaning.specs.Memory.{Changes}
use Rattle.loader_machine.specs.declared.faults.LoaderFault.{LoaderFault}
use Rattle.loader_machine.specs.declared.faults.LoaderFault.TheVariants as fault
use Rattle.loader_machine.specs.declared.seen.SegmentHead.{SegmentHead}
use Rattle.loader_machine.specs.declared.seen.Presence.{Presence}
use Rattle.loader_machine.specs.declared.seen.Presence.TheVariants.{Absent, Purged, Idle, Active}
use Rattle.loader_machine.specs.Heads.{head_of, at_number, is_table, want_of}
use Rattle.loader_machine.specs.State.{Machine, UserSeen, fresh, first_id, handles_of, is_attached, led_by}
use Rattle.loader_machine.specs.Presences.{handle_at, presence, presence_at, active_at, lies_in, lies_at}
use Rattle.loader_machine.specs.laws.Words.{Activates, Answers}
use Rattle.loader_machine.specs.Found.{HoldsLoad}
use Rattle.loader_machine.specs.laws.OnceLaws.{one_load}
use Rattle.loader_machine.specs.Commands.{Reply, LoadSegment, MadeActive, Refused}
use Rattle.loader_machine.specs.Refusals.{Refuse, load_segment_refusal}
use Rattle.loader_machine.specs.Steps.{Sees, seen_of, Activation, OutOfSlots, OutOfRoom, Made, MakesActive, active_block, with_block_changed, with_slots, with_both, with_segment}
use Rattle.loader_machine.specs.Needs.{Needs, is_read, path_if}
use Rattle.loader_agrees.specs.Agrees.{Loaded, Outline, kept_outlines, seen_in, Agrees, Has, IsSound, Meets}
use Rattle.loader_agrees.specs.laws.Reads.{headed}
use Rattle.loader_agrees.specs.laws.Seeing.{made_at, IsKept, kept_is, refuses, does}
use Rattle.loader_agrees.specs.laws.Leading.{is_led, joined_of}
use Rattle.sys_loader.specs.Replies.{activation_reply}
use Rattle.loader_users.specs.Taken.{IsFaultAs}
use Rattle.sys_loader.specs.Lives.{HasTurned}
use Rattle.sys_loader.proofs.ReadAs.{as_loadable, no_fault_as}
use Rattle.loader_users.specs.Changed.{IsChanged}
use Rattle.sys_loader.specs.Activating.{CanLoad, IsBringRefusal, HasCome, IsComeRefusal, IsReadRefusal, CantRead, LacksMemory, CantCome, DidCome, HasActivated, DidActivate}
use Rattle.sys_loader.proofs.Came.{dynamic_plain, came_agrees}
use Rattle.loader_users.proofs.Shifting.{IsTurn, shifted_agrees}

-- ---- a segment that wakes

pub wakes : IsTurn active_block
wakes = record { at = λ b. refl; user = λ b. refl; want = λ b. refl; movable = λ b. refl; form = λ b. inl (refl, refl) }

-- the handle of a segment whose block is live
pub idle_handle : (slots : Slots) (handle : Option Handle) (h : Handle) (address : ℕ) → presence slots handle ≡ Idle h address → handle ≡ Some h
idle_handle slots None h address is = absurd cc
idle_handle slots (Some k) h address is = go (get slots k) is
  where
    at_block : (at : Option ℕ) (locked : Bool) → lies_at k at locked ≡ Idle h address → Some k ≡ Some h
    at_block None locked e = absurd cc
    at_block (Some a) true e = absurd cc
    at_block (Some a) false e = cc

    go : (o : Option Block) → lies_in k o ≡ Idle h address → Some k ≡ Some h
    go None e = absurd cc
    go (Some b) e = at_block b.at b.locked e

pub purged_handle : (slots : Slots) (handle : Option Handle) (h : Handle) → presence slots handle ≡ Purged h → handle ≡ Some h
purged_handle slots None h is = absurd cc
purged_handle slots (Some k) h is = go (get slots k) is
  where
    at_block : (at : Option ℕ) (locked : Bool) → lies_at k at locked ≡ Purged h → Some k ≡ Some h
    at_block None locked e = cc
    at_block (Some a) true e = absurd cc
    at_block (Some a) false e = absurd cc

    go : (o : Option Block) → lies_in k o ≡ Purged h → Some k ≡ Some h
    go None e = absurd cc
    go (Some b) e = at_block b.at b.locked e

-- a block that is idle is there
pub idle_at : (slots : Slots) (h : Handle) (address : ℕ) (block : Block) → presence slots (Some h) ≡ Idle h address → get slots h ≡ Some block → block.at ≡ Some address
idle_at slots h address block is live = go block.at block.locked (sym (ap (lies_in h) live) ∙ is)
  where
    go : (at : Option ℕ) (locked : Bool) → lies_at h at locked ≡ Idle h address → at ≡ Some address
    go None locked e = absurd cc
    go (Some a) true e = absurd cc
    go (Some a) false e = cc

live_there : (slots : Slots) (h : Handle) (block : Block) → get slots h ≡ Some block → presence slots (Some h) ≢ Absent
live_there slots h block live is = go block.at block.locked (sym (ap (lies_in h) live) ∙ is)
  where
    go : (at : Option ℕ) (locked : Bool) → lies_at h at locked ≢ Absent
    go None locked e = cc
    go (Some a) true e = cc
    go (Some a) false e = cc

-- ---- over revealed files

-- a segment is made active as by the machine; or the read failed, or the call was out of memory, and all agrees as before
abbrev pub IsMet : FileMap → Machine → ℕ → ℕ → (ℕ → Reply) → Bool → Reply → Loaded → ℕ → ℕ → Type 0
IsMet held state id number of reads reply new before now =
    ((next : Machine) × MakesActive RoomRule held state id number of reply next × Agrees held new next × (now ≡ before))
    ⊎ (((reply ≡ Refused fault.CannotRead) × Agrees held new state × (reads ≡ true) × (now ≡ one_more before))
    ⊎ ((reply ≡ Refused fault.Memory) × Agrees held new state × (now ≡ before)))

pub not_changed : (kept found : List SegmentHead) (why : LoaderFault) → found ≡ kept → IsChanged kept found why → ⊥
not_changed kept found why same (inl d) =
    let differs = d.3 in
    differs.other (same_Some d.1 d.2 (sym differs.was' ∙ ap (λ (hs : List SegmentHead). at_number hs d.0) (sym same) ∙ differs.is'))
not_changed kept found why same (inr d) = d.1 (ap length (sym same))

module _ (held : FileMap) (old : Loaded) (state : Machine) (id number : ℕ) (sound : IsSound old.memory old.users) (agrees : Agrees held old state) (head : SegmentHead) (handle : Option Handle)
    (can : CanLoad old id number head handle) where
  abbrev pub is : IsKept held old state agrees id can.kept
  is = kept_is held old state agrees id can.kept can.made

  pub path_same : can.kept.path ≡ is.user.path
  path_same = ap (λ (o : Outline). o.path) is.does_agree.same

  abbrev pub sees : Sees held state id
  sees = record { user = is.user; made = is.made; segments = is.does_agree.segments; holds = subst (λ (p : List ℕ). HoldsLoad held p is.does_agree.segments) path_same is.does_agree.holds }

  found : (s : Segment) × (segment_at is.does_agree.segments number ≡ Some s) × (head ≡ head_of s)
  found =
      let it = headed is.does_agree.segments number head (ap (λ (hs : List SegmentHead). at_number hs number) (sym is.does_agree.heads) ∙ can.head') in
      (it.0, it.1, sym it.2)

  pub presence_same : presence_at state.slots (handles_of is.user) number ≡ presence old.memory.slots handle
  presence_same = ap (λ (o : Outline). presence state.slots (handle_at o.handles number)) (sym is.does_agree.same) ∙ ap (presence state.slots) can.handle' ∙ ap (λ (t : Slots). presence t handle) (sym agrees.slots)

  makes : (p : Presence) → presence old.memory.slots handle ≡ p → (outcome : Activation) → Activates RoomRule state id is.user number (want_of head) p outcome
      → (of : ℕ → Reply) (reply : Reply) (next : Machine) → Answers state number outcome of reply next → MakesActive RoomRule held state id number of reply next
  makes p at outcome activates of reply next answers = record {
    sees = sees;
    s = found.0;
    is = found.1;
    outcome = outcome;
    activates = subst (λ (q : Presence). Activates RoomRule state id is.user number (want_of (head_of found.0)) q outcome) (sym (presence_same ∙ at))
        (subst (λ (x : SegmentHead). Activates RoomRule state id is.user number (want_of x) p outcome) found.2 activates);
    answers = answers;
  }

  lacks_moved : LacksRoom RoomRule old.memory.banks old.memory.slots (want_of head) → LacksRoom RoomRule state.banks state.slots (want_of head)
  lacks_moved lacks =
      subst (λ (t : Slots). LacksRoom RoomRule state.banks t (want_of head)) agrees.slots (subst (λ (b : List ℕ). LacksRoom RoomRule b old.memory.slots (want_of head)) agrees.banks lacks)

  -- ---- it is there

  stays : (h : Handle) (at now : ℕ) (of : ℕ → Reply) → presence old.memory.slots handle ≡ Active h at → IsMet held state id number of false (of at) old now now
  stays h at now of here = inl (state, makes (Active h at) here (Made at state) refl of (of at) state (refl, refl), agrees, refl)

  woke : (new : Loaded) (h : Handle) (at now : ℕ) (of : ℕ → Reply) → presence old.memory.slots handle ≡ Idle h at → HasTurned old id number h active_block (Some at) new
      → IsMet held state id number of false (of at) new now now
  woke new h at now of here turned =
      let shifted = turned.shifted in
      let led = is_led old.users id can.kept sound.attached can.made in
      let its : handle ≡ Some h = idle_handle old.memory.slots handle h at here in
      let next : Machine = with_slots state (with_block_changed active_block state.slots h) in
      let was : get old.memory.slots h ≡ Some shifted.changes.block = ap (λ (t : Slots). get t h) (sym shifted.renewed.slots) ∙ shifted.changes.was in
      let its_at : shifted.changes.block.at ≡ Some at = idle_at old.memory.slots h at shifted.changes.block (ap (presence old.memory.slots) (sym its) ∙ here) was in
      inl (
        next,
        makes (Idle h at) here (Made at next) refl of (of at) next (refl, refl),
        shifted_agrees old new id number (led_by (kept_outlines old.users) id).0 (led_by (kept_outlines old.users) id).1 can.kept turned.lead h active_block (Some at) head sound led.leading turned.leads led.alone can.made can.head' (can.handle' ∙ its) can.dynamic wakes shifted
            (ap (λ (o : Option ℕ). active_at (lies_at h o true)) its_at) held state agrees (λ some. can.fits),
        refl,
      )

  -- ---- it is placed

  plain : is_table head ≡ false
  plain = dynamic_plain is.does_agree.holds.file is.does_agree.segments is.does_agree.holds.loadable number head (ap (λ (hs : List SegmentHead). at_number hs number) (sym is.does_agree.heads) ∙ can.head') can.dynamic

  same_load : (file : List ℕ) (segments : List Segment) → IsRead (Some held) can.kept.path file → IsLoadable file segments → is.does_agree.segments ≡ segments
  same_load file segments is_read taken =
      one_load held can.kept.path is.does_agree.segments segments is.does_agree.holds (record { file = file; is_held = (is_read.1, is_read.0); loadable = taken })

  not_bad : (file : List ℕ) (bad : LoadFault) → IsRead (Some held) can.kept.path file → IsFaultAs (is_attached (kept_outlines old.users) id) file bad → ⊥
  not_bad file bad is_read first =
      let same : is.does_agree.holds.file ≡ file = same_Some is.does_agree.holds.file file (sym is.does_agree.holds.is_held.0 ∙ is_read.1) in
      no_fault_as (is_attached (kept_outlines old.users) id) file is.does_agree.segments bad (subst (λ (f : List ℕ). IsLoadable f is.does_agree.segments) same is.does_agree.holds.loadable)
      (λ attached n g found'. (joined_of old.users id can.kept sound.attached can.made attached).1.dynamic n g (ap (λ (hs : List SegmentHead). at_number hs n) is.does_agree.heads ∙ found')) first

  has_it : (h : Handle) → handle ≡ Some h → Has old.users (id - first_id) number head h
  has_it h its = record { kept = can.kept; made = (made_at old.users id can.kept can.made).0; head' = can.head'; handle = can.handle' ∙ its }

  none_absent : presence old.memory.slots handle ≡ Absent → handle ≡ None
  none_absent here = go handle refl
    where
      go : (o : Option Handle) → handle ≡ o → handle ≡ None
      go None e = e
      go (Some h) e =
          let of' = sound.each (id - first_id) number head h (has_it h e) in
          absurd (live_there old.memory.slots h of'.block of'.live (ap (presence old.memory.slots) (sym e) ∙ here))

  came_first : (new : Loaded) (address now : ℕ) (of : ℕ → Reply) (segments : List Segment) → handle ≡ None → is.does_agree.segments ≡ segments → HasCome old id number can.kept head handle segments address new
      → IsMet held state id number of true (of address) new now now
  came_first new address now of segments none same did =
      let next : Machine = with_both state id new.memory.slots (Some (with_segment is.user number (fresh (Some did.h)))) in
      let here : presence old.memory.slots handle ≡ Absent = ap (presence old.memory.slots) none in
      let slots : new.memory.slots ≡ did.placed.slots = did.renewed.slots in
      let brought = subst (λ (o : Option Handle). Rattle.sys_loader.specs.Activating.IsBrought old.memory id head o did.h address did.placed) none did.brought in
      let there = moved {h = did.h} {last = did.placed.slots} brought.0.puts brought.1 state.slots agrees.slots state.banks agrees.banks in
      inl (
        next,
        makes Absent here (Made address next) (did.h, did.placed.slots, there.0, there.1, ap (λ (t : Slots). with_both state id t (Some (with_segment is.user number (fresh (Some did.h))))) slots)
            of (of address) next (refl, refl),
        came_agrees old new id number head handle segments address sound can (ap is_read here) plain did held state agrees same,
        refl,
      )
    where
      moved : {h : Handle} {last : Slots} (puts : Puts RoomRule old.memory.banks old.memory.slots (want_of head) id true 0 false h last) → puts.address ≡ address → (t : Slots) → old.memory.slots ≡ t → (b : List ℕ) → old.memory.banks ≡ b
          → (puts' : Puts RoomRule b t (want_of head) id true 0 false h last) × (puts'.address ≡ address)
      moved {h} {last} puts at t es b eb =
          subst (λ (x : Slots). (puts' : Puts RoomRule b x (want_of head) id true 0 false h last) × (puts'.address ≡ address)) es
          (subst (λ (x : List ℕ). (puts' : Puts RoomRule x old.memory.slots (want_of head) id true 0 false h last) × (puts'.address ≡ address)) eb (puts, at))

  came_anew : (new : Loaded) (k : Handle) (address now : ℕ) (of : ℕ → Reply) (segments : List Segment) → handle ≡ Some k → presence old.memory.slots handle ≡ Purged k → is.does_agree.segments ≡ segments
      → HasCome old id number can.kept head handle segments address new → IsMet held state id number of true (of address) new now now
  came_anew new k address now of segments some here same did =
      let next : Machine = with_both state id new.memory.slots (Some (with_segment is.user number (fresh (Some did.h)))) in
      let brought = subst (λ (o : Option Handle). Rattle.sys_loader.specs.Activating.IsBrought old.memory id head o did.h address did.placed) some did.brought in
      let changes : Changes brought.1 did.h active_block did.placed = brought.4 in
      let slots : new.memory.slots ≡ with_block_changed active_block brought.1.slots did.h =
      did.renewed.slots ∙ changes.slots ∙ sym (ap (λ (o : Option Block). option_map_or (λ b. Rattle.iigs_meaning.specs.Slots.with_value brought.1.slots did.h (active_block b)) o brought.1.slots) changes.was) in
      let there = moved {h = did.h} {last = brought.1.slots} brought.2.puts brought.3 state.slots agrees.slots state.banks agrees.banks in
      let activates : Activates RoomRule state id is.user number (want_of head) (Purged did.h) (Made address next) =
      (brought.1.slots, there.0, there.1, ap (λ (t : Slots). with_both state id t (Some (with_segment is.user number (fresh (Some did.h))))) slots) in
      let here' : presence old.memory.slots handle ≡ Purged did.h = here ∙ ap (λ (x : Handle). Purged x) brought.0 in
      inl (
        next,
        makes (Purged did.h) here' (Made address next) activates of (of address) next (refl, refl),
        came_agrees old new id number head handle segments address sound can (ap is_read here) plain did held state agrees same,
        refl,
      )
    where
      moved : {h : Handle} {last : Slots} (puts : PutsAnew RoomRule old.memory.banks old.memory.slots h (want_of head) last) → puts.address ≡ address → (t : Slots) → old.memory.slots ≡ t → (b : List ℕ) → old.memory.banks ≡ b
          → (puts' : PutsAnew RoomRule b t h (want_of head) last) × (puts'.address ≡ address)
      moved {h} {last} puts at t es b eb =
          subst (λ (x : Slots). (puts' : PutsAnew RoomRule b x h (want_of head) last) × (puts'.address ≡ address)) es
          (subst (λ (x : List ℕ). (puts' : PutsAnew RoomRule x old.memory.slots h (want_of head) last) × (puts'.address ≡ address)) eb (puts, at))

  -- ---- it isn't placed

  refused_first : (why : LoaderFault) (now : ℕ) (of : ℕ → Reply) → handle ≡ None → IsBringRefusal old.memory head handle number why → IsMet held state id number of true (Refused why) old now now
  refused_first why now of none is_refused =
      let here : presence old.memory.slots handle ≡ Absent = ap (presence old.memory.slots) none in
      elim (subst (λ (o : Option Handle). IsBringRefusal old.memory head o number why) none is_refused) [
        | inl slots ↦
            inl (state, makes Absent here OutOfSlots (ap new_handle (sym agrees.slots) ∙ slots.1) of (Refused why) state (ap (λ (f : LoaderFault). Refused f) slots.0, refl), agrees, refl)
        | inr room ↦
            inl (state, makes Absent here OutOfRoom (subst (λ (t : Slots). IsSome (new_handle t)) agrees.slots room.1, lacks_moved room.2) of (Refused why) state (ap (λ (f : LoaderFault). Refused f) room.0, refl), agrees, refl)
      ]

  refused_anew : (why : LoaderFault) (k : Handle) (now : ℕ) (of : ℕ → Reply) → handle ≡ Some k → presence old.memory.slots handle ≡ Purged k → IsBringRefusal old.memory head handle number why
      → IsMet held state id number of true (Refused why) old now now
  refused_anew why k now of some here is_refused =
      let room = subst (λ (o : Option Handle). IsBringRefusal old.memory head o number why) some is_refused in
      inl (state, makes (Purged k) here OutOfRoom (lacks_moved room.1) of (Refused why) state (ap (λ (f : LoaderFault). Refused f) room.0, refl), agrees, refl)

  -- it is absent or purged
  abbrev IsGone : Type 0
  IsGone = (handle ≡ None) ⊎ ((k : Handle) × (handle ≡ Some k) × (presence old.memory.slots handle ≡ Purged k))

  came : IsGone → (new : Loaded) (address now : ℕ) (of : ℕ → Reply) (segments : List Segment) → is.does_agree.segments ≡ segments → HasCome old id number can.kept head handle segments address new
      → IsMet held state id number of true (of address) new now now
  came (inl none) new address now of segments same did = came_first new address now of segments none same did
  came (inr some) new address now of segments same did = came_anew new some.0 address now of segments some.1 some.2 same did

  refused : IsGone → (why : LoaderFault) (now : ℕ) (of : ℕ → Reply) → IsBringRefusal old.memory head handle number why → IsMet held state id number of true (Refused why) old now now
  refused (inl none) why now of is_refused = refused_first why now of none is_refused
  refused (inr some) why now of is_refused = refused_anew why some.0 now of some.1 some.2 is_refused

  lacks_memory : (why : LoaderFault) (now : ℕ) (of : ℕ → Reply) → why ≡ fault.Memory → IsMet held state id number of true (Refused why) old now now
  lacks_memory why now of short = inr (inr (ap (λ (f : LoaderFault). Refused f) short, agrees, refl))

  none_comes : IsGone → (file : List ℕ) (why : LoaderFault) (now : ℕ) (of : ℕ → Reply) → IsRead (Some held) can.kept.path file → IsComeRefusal file old id number can.kept head handle why
      → IsMet held state id number of true (Refused why) old now now
  none_comes gone file why now of is_read (inl (inl short)) = lacks_memory why now of short
  none_comes gone file why now of is_read (inl (inr bad)) = absurd (not_bad file bad.0 is_read bad.1)
  none_comes gone file why now of is_read (inr (segments, taken, inl changes)) =
      let same = same_load file segments is_read (as_loadable (is_attached (kept_outlines old.users) id) file segments taken) in
      absurd (not_changed can.kept.heads (map head_of segments) why (ap (map head_of) (sym same) ∙ sym is.does_agree.heads) changes)
  none_comes gone file why now of is_read (inr (segments, taken, inr none)) = refused gone why now of none.1

  absent : maps.get held can.kept.path ≡ None → ⊥
  absent none = let clash : None ≡ Some is.does_agree.holds.file = sym none ∙ is.does_agree.holds.is_held.0 in absurd cc

  too_long : IsSomeAnd (maps.get held can.kept.path) (λ bytes. max_file < length bytes) → ⊥
  too_long long = let more : max_file < length is.does_agree.holds.file = rw is.does_agree.holds.is_held.0 at long in omega (arith, more, is.does_agree.holds.is_held.1)

  unread : (why : LoaderFault) (before now : ℕ) (of : ℕ → Reply) → IsUnread (Some held) can.kept.path before now → why ≡ fault.CannotRead → IsMet held state id number of true (Refused why) old before now
  unread why before now of (inl none) is_why = absurd (absent none.0)
  unread why before now of (inr (inl long)) is_why = absurd (too_long long.0)
  unread why before now of (inr (inr rose)) is_why = inr (inl (ap (λ (f : LoaderFault). Refused f) is_why, agrees, refl, rose))

  read_refused : IsGone → (why : LoaderFault) (before now : ℕ) (of : ℕ → Reply) → IsReadRefusal (Some held) old id number can.kept head handle before now why → IsMet held state id number of true (Refused why) old before now
  read_refused gone why before now of (CantRead none is_why) = unread why before now of none is_why
  read_refused gone why before now of (LacksMemory short same) = subst (λ (n : ℕ). IsMet held state id number of true (Refused why) old before n) (sym same) (lacks_memory why before of short)
  read_refused gone why before now of (CantCome file is_read none same) =
      subst (λ (n : ℕ). IsMet held state id number of true (Refused why) old before n) (sym same) (none_comes gone file why before of is_read none)

  did_come : IsGone → (result : Result ℕ LoaderFault) (new : Loaded) (before now : ℕ) (of : ℕ → Reply) → DidCome (Some held) old id number can.kept head handle result new before now
      → IsMet held state id number of true (activation_reply of result) new before now
  did_come gone (Ok address) new before now of did =
      let read = did.0 in
      subst (λ (n : ℕ). IsMet held state id number of true (of address) new before n) (sym did.1)
      (came gone new address before of read.2.0 (same_load read.0 read.2.0 read.1 (as_loadable (is_attached (kept_outlines old.users) id) read.0 read.2.0 read.2.1)) read.2.3)
  did_come gone (Err why) new before now of did =
      subst (λ (l : Loaded). IsMet held state id number of true (Refused why) l before now) (sym did.1) (read_refused gone why before now of did.0)

  -- the segment is made active as by the machine
  pub activated : (p : Presence) → presence old.memory.slots handle ≡ p → (result : Result ℕ LoaderFault) (new : Loaded) (before now : ℕ) (of : ℕ → Reply)
      → HasActivated (Some held) old id number can.kept head handle p result new before now → IsMet held state id number of (is_read p) (activation_reply of result) new before now
  activated (Active h at) here result new before now of did =
      subst (λ (r : Result ℕ LoaderFault). IsMet held state id number of false (activation_reply of r) new before now) (sym did.0)
      (subst (λ (l : Loaded). IsMet held state id number of false (of at) l before now) (sym did.1)
      (subst (λ (n : ℕ). IsMet held state id number of false (of at) old before n) (sym did.2) (stays h at before of here)))
  activated (Idle h at) here result new before now of did =
      subst (λ (r : Result ℕ LoaderFault). IsMet held state id number of false (activation_reply of r) new before now) (sym did.0)
      (subst (λ (n : ℕ). IsMet held state id number of false (of at) new before n) (sym did.2) (woke new h at before of here did.1))
  activated (Purged h) here result new before now of did = did_come (inr (h, purged_handle old.memory.slots handle h here, here)) result new before now of did
  activated Absent here result new before now of did = did_come (inl (none_absent here)) result new before now of did

  -- ---- the path that is read

  seen_same : seen_in can.kept ≡ seen_of is.user is.does_agree.segments
  seen_same =
      let life : can.kept.life ≡ is.user.life = ap (λ (o : Outline). o.life) is.does_agree.same in
      let handles : can.kept.handles ≡ handles_of is.user = ap (λ (o : Outline). o.handles) is.does_agree.same in
      let heads : can.kept.heads ≡ map head_of is.does_agree.segments = is.does_agree.heads in
      cc

  passes : load_segment_refusal (Some (seen_of is.user is.does_agree.segments)) number ≡ None
  passes =
      ap (λ (seen : UserSeen). load_segment_refusal (Some seen) number) (sym seen_same)
      ∙ ap (λ (o : Option UserSeen). load_segment_refusal o number) (sym (ap (option_map seen_in) can.made)) ∙ can.passes

  pub needs : is_read (presence old.memory.slots handle) ≡ true → Needs held state (LoadSegment id number) (is.user.path ∷ [])
  needs reads =
      let reads' : is_read (presence_at state.slots (handles_of is.user) number) ≡ true = ap is_read presence_same ∙ reads in
      inr (
        sees,
        sym (ap (λ (r : Refuse). path_if r (is_read (presence_at state.slots (handles_of is.user) number)) is.user.path) passes
            ∙ ap (λ (b : Bool). path_if None b is.user.path) reads'),
      )

  pub activation_met : (result : Result ℕ LoaderFault) (new : Loaded) (before now : ℕ) → HasActivated (Some held) old id number can.kept head handle (presence old.memory.slots handle) result new before now
      → Meets RoomRule held state (LoadSegment id number) (activation_reply (MadeActive number) result) new before now
  activation_met result new before now did = elim (activated (presence old.memory.slots handle) refl result new before now (MadeActive number) did) [
    | inl made ↦ inl (
      (
        made.0,
        does held old state agrees id (λ seen. load_segment_refusal seen number) (activation_reply (MadeActive number) result) made.0 _ can.passes is.user is.made made.1,
        made.2,
      ),
      made.3,
    )
    | inr other ↦ elim other [
      | inl unread' ↦ inr (inl (unread'.0, is.user.path ∷ [], needs unread'.2, (λ none. absurd cc), unread'.1, unread'.3))
      | inr short ↦ inr (inr short)
    ]
  ]

-- making a segment active is the machine's step
pub activates_meet : (store : Option FileMap) (held : FileMap) (old new : Loaded) (state : Machine) (id number : ℕ) (result : Result ℕ LoaderFault) (before now : ℕ) → store ≡ Some held → IsSound old.memory old.users
    → DidActivate store old id number result new before now → Agrees held old state → Meets RoomRule held state (LoadSegment id number) (activation_reply (MadeActive number) result) new before now
activates_meet store held old new state id number result before now reported sound did agrees =
    go (subst (λ (s : Option FileMap). DidActivate s old id number result new before now) reported did)
  where
    go : DidActivate (Some held) old id number result new before now → Meets RoomRule held state (LoadSegment id number) (activation_reply (MadeActive number) result) new before now
    go (inl stopped) =
        subst (λ (r : Result ℕ LoaderFault). Meets RoomRule held state (LoadSegment id number) (activation_reply (MadeActive number) r) new before now) (sym stopped.2)
        (subst (λ (l : Loaded). Meets RoomRule held state (LoadSegment id number) (Refused stopped.0) l before now) (sym stopped.3)
        (subst (λ (n : ℕ). Meets RoomRule held state (LoadSegment id number) (Refused stopped.0) old before n) (sym stopped.4)
        (inl ((state, refuses held old state agrees id (λ seen. load_segment_refusal seen number) stopped.0 _ stopped.1, agrees), refl))))
    go (inr here) = activation_met held old state id number sound agrees here.0 here.1 here.2 result new before now here.3
