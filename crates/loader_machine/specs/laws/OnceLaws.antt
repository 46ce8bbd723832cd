-- A command has one reply and one next state, where the blocks lie apart and no handle is held twice.
use Rattle.std.proofs.Common.{◌≡◌, ℕ, Bool, true, false, cond, ◌==◌, ◌+◌, ◌^◌, ◌<◌, ◌≤◌, List, [], ◌∷◌, length, map, take, drop, Option, Some, None, IsSome, refl, sym, ap, subst, ◌∙◌, arith}
use Rattle.std.proofs.lemmas.Option.{same_Some}
use Rattle.omf_format.specs.File.{Segment, segment_at}
use Rattle.omf_io.specs.Files.{FileMap}
use Rattle.load_meaning.specs.declared.load.LoadFault.{LoadFault}
use Rattle.load_meaning.specs.declared.table.Target.{Target}
use Rattle.load_meaning.specs.Pathnames.{paths_of}
use Rattle.load_meaning.specs.Runtime.{runtime_fault, IsRuntime, IsFirstRuntimeFault, OfLoading, OfKind}
use Rattle.load_meaning.specs.LoadTable.{targets_of}
use Rattle.load_meaning.specs.Loadable.{IsLoadable, IsFirstLoadFault}
use Rattle.load_meaning.specs.laws.LoadableLaws.{loadable_same, loadable_sound, first_fault_same}
use Rattle.iigs_meaning.specs.declared.handles.Handle.{Handle}
use Rattle.iigs_meaning.specs.declared.wants.Want.{Want}
use Rattle.iigs_meaning.specs.declared.wants.Block.{Block}
use Rattle.iigs_meaning.specs.Slots.{get, slot_at, new_handle}
use Rattle.iigs_meaning.specs.Fits.{Slots, block_in, HoldsByte}
use Rattle.iigs_meaning.specs.Blocks.{AreApart, state_of}
use Rattle.iigs_meaning.specs.Puts.{MakesRoom, IsOnce, without_user}
use Rattle.iigs_meaning.specs.Room.{IsRoom}
use Rattle.iigs_meaning.specs.Slide.{count_moved}
use Rattle.iigs_meaning.specs.laws.SlideLaws.{slides_once}
use Rattle.loader_machine.specs.Heads.{SegmentHead, head_of, is_table, want_of, wants_of}
use Rattle.loader_machine.specs.State.{User, Machine, UserSeen, fresh, held_at, first_id, user_of, handles_of}
use Rattle.loader_machine.specs.Presences.{Presence, Absent, Purged, Idle, Active, presence, presence_at, handle_at, lies_in, lies_at}
use Rattle.loader_machine.specs.laws.Words.{is_locked, level_in, is_movable, IsRowFound, JoinsFound, Lands, LoadsJoined, LoadsFound, begun_users, again_users, ComesAnew, ComesFirst, Activates, Answers, place_reply, EntersEntry, EntersSegment, Enters, RestartsInPlace, alloc_want, setting_in}
use Rattle.loader_machine.specs.Stands.{stands}
use Rattle.loader_machine.specs.Found.{HoldsFile, HoldsLoad, HoldsFault, HoldsRuntime, HoldsRuntimeFault, FileFound, Unread, Bad, Good, IsFound, Joined, Stops, Joins, AreJoined, joined_after}
use Rattle.loader_machine.specs.Commands.{Command, Banks, Load, LoadSegment, UnloadSegment, Jsl, ShutDown, Restart, Purge, Poke, Bytes, Where, Info, Alloc, Free, Lock, Unlock, Level, StateOf, Room, Compact, Reply, Entered, Shown, SegmentIs, Placed, BlockIs, RoomIs, Moved}
use Rattle.loader_machine.specs.Refusals.{Refuse, load_refusal, rows_refusal, purge_refusal, free_refusal, change_refusal, state_refusal}
use Rattle.loader_machine.specs.Steps.{seen_of, Sees, IsSeen, Decides, Does, Either, with_slots, with_both, with_segment, active_block, with_block_changed, Put, NoSlots, Lacks, PutIn, Begins, lost_refusal, StepsLoad, Activation, OutOfSlots, OutOfRoom, Made, MakesActive, StandsIn, IsAt, AddressPlace, Nowhere, In, IsLocated, target_at_code, address_of, no_jsl, StepsJsl, StepsShutDown, are_there, StepsRestart, StepsAlloc, StepsChange, Steps}
use Rattle.loader_machine.specs.Steps.StepsAlloc.{IsPlaced, HasNoHandle, HasNoRoom}
use Rattle.loader_machine.specs.laws.PutLaws.{counts_once, puts_once, anew_once, put_once}

abbrev pub AreSame : Reply → Reply → Machine → Machine → Type 0
AreSame one other next last = (one ≡ other) × (next ≡ last)

-- blocks lie apart, no handle is held twice, and each block of a segment has room for LENGTH bytes
pub record IsApartState (held : FileMap) (state : Machine) : Type 0 where
  pub apart : AreApart state.banks state.slots
  pub once : (id other n m : ℕ) (one : Sees held state id) (two : Sees held state other) (h k : Handle) → handle_at (handles_of one.user) n ≡ Some h
      → handle_at (handles_of two.user) m ≡ Some k → h.slot ≡ k.slot → (id ≡ other) × (n ≡ m)
  pub wide : (id n : ℕ) (sees : Sees held state id) (s : Segment) (h : Handle) (block : Block) → segment_at sees.segments n ≡ Some s → handle_at (handles_of sees.user) n ≡ Some h
      → get state.slots h ≡ Some block → s.fields.length ≤ block.want.size

-- ---- files and users

one_file : (held : FileMap) (path a b : List ℕ) → HoldsFile held path a → HoldsFile held path b → a ≡ b
one_file held path a b p q = same_Some a b (sym p.0 ∙ q.0)

pub one_load : (held : FileMap) (path : List ℕ) (a b : List Segment) → HoldsLoad held path a → HoldsLoad held path b → a ≡ b
one_load held path a b p q =
    let file = one_file held path p.file q.file p.is_held q.is_held in
    loadable_same q.file a b (subst (λ (f : List ℕ). IsLoadable f a) file p.loadable) q.loadable

one_fault : (held : FileMap) (path : List ℕ) (a b : LoadFault) → HoldsFault held path a → HoldsFault held path b → a ≡ b
one_fault held path a b p q =
    let file = one_file held path p.file q.file p.is_held q.is_held in
    first_fault_same q.file a b (subst (λ (f : List ℕ). IsFirstLoadFault f a) file p.first) q.first

no_fault : (held : FileMap) (path : List ℕ) (segments : List Segment) (fault : LoadFault) → HoldsLoad held path segments → HoldsFault held path fault → ⊥
no_fault held path segments fault p q =
    let file = one_file held path p.file q.file p.is_held q.is_held in
    loadable_sound q.file segments fault (subst (λ (f : List ℕ). IsLoadable f segments) file p.loadable) q.first

pub found_once : (held : FileMap) (path : List ℕ) (a b : FileFound) → IsFound held path a → IsFound held path b → a ≡ b
found_once held path Unread Unread p q = refl
found_once held path Unread (Bad fault) p q = absurd (p q.file q.is_held)
found_once held path Unread (Good segments) p q = absurd (p q.file q.is_held)
found_once held path (Bad fault) Unread p q = absurd (q p.file p.is_held)
found_once held path (Bad a) (Bad b) p q = ap (λ (f : LoadFault). Bad f) (one_fault held path a b p q)
found_once held path (Bad fault) (Good segments) p q = absurd (no_fault held path segments fault q p)
found_once held path (Good segments) Unread p q = absurd (q p.file p.is_held)
found_once held path (Good segments) (Bad fault) p q = absurd (no_fault held path segments fault p q)
found_once held path (Good a) (Good b) p q = ap (λ (ss : List Segment). Good ss) (one_load held path a b p q)

-- ---- rows

one_runtime : (held : FileMap) (path : List ℕ) (a b : List Segment) → HoldsRuntime held path a → HoldsRuntime held path b → a ≡ b
one_runtime held path a b p q =
    let file = one_file held path p.file q.file p.is_held q.is_held in
    loadable_same q.file a b (subst (λ (f : List ℕ). IsLoadable f a) file p.runtime.loadable) q.runtime.loadable

some_fault : (file : List ℕ) (a b : LoadFault) → IsFirstRuntimeFault file a → IsFirstRuntimeFault file b → a ≡ b
some_fault file a b (OfLoading p) (OfLoading q) = first_fault_same file a b p q
some_fault file a b (OfLoading p) (OfKind segments is e) = absurd (loadable_sound file segments a is p)
some_fault file a b (OfKind segments is e) (OfLoading q) = absurd (loadable_sound file segments b is q)
some_fault file a b (OfKind segments is e) (OfKind others is' e') =
    same_Some a b (sym e ∙ ap (runtime_fault) (loadable_same file segments others is is') ∙ e')

one_row_fault : (held : FileMap) (path : List ℕ) (a b : LoadFault) → HoldsRuntimeFault held path a → HoldsRuntimeFault held path b → a ≡ b
one_row_fault held path a b p q =
    let file = one_file held path p.file q.file p.is_held q.is_held in
    some_fault q.file a b (subst (λ (f : List ℕ). IsFirstRuntimeFault f a) file p.first) q.first

sound_row : (file : List ℕ) (segments : List Segment) (fault : LoadFault) → IsRuntime file segments → IsFirstRuntimeFault file fault → ⊥
sound_row file segments fault is (OfLoading p) = loadable_sound file segments fault is.loadable p
sound_row file segments fault is (OfKind others other e) =
    let clash : None ≡ Some fault = sym is.dynamic ∙ ap (runtime_fault) (loadable_same file segments others is.loadable other) ∙ e in cc

no_row_fault : (held : FileMap) (path : List ℕ) (segments : List Segment) (fault : LoadFault) → HoldsRuntime held path segments → HoldsRuntimeFault held path fault → ⊥
no_row_fault held path segments fault p q =
    let file = one_file held path p.file q.file p.is_held q.is_held in
    sound_row q.file segments fault (subst (λ (f : List ℕ). IsRuntime f segments) file p.runtime) q.first

row_once : (held : FileMap) (path : List ℕ) (a b : FileFound) → IsRowFound held path a → IsRowFound held path b → a ≡ b
row_once held path Unread Unread p q = refl
row_once held path Unread (Bad fault) p q = absurd (p q.file q.is_held)
row_once held path Unread (Good segments) p q = absurd (p q.file q.is_held)
row_once held path (Bad fault) Unread p q = absurd (q p.file p.is_held)
row_once held path (Bad a) (Bad b) p q = ap (λ (f : LoadFault). Bad f) (one_row_fault held path a b p q)
row_once held path (Bad fault) (Good segments) p q = absurd (no_row_fault held path segments fault q p)
row_once held path (Good segments) Unread p q = absurd (q p.file p.is_held)
row_once held path (Good segments) (Bad fault) p q = absurd (no_row_fault held path segments fault p q)
row_once held path (Good a) (Good b) p q = ap (λ (ss : List Segment). Good ss) (one_runtime held path a b p q)

joins_same : (found : FileFound) (Rest : Joined → Type 0) → ((x y : Joined) → Rest x → Rest y → x ≡ y) → (a b : Joined) → JoinsFound found Rest a → JoinsFound found Rest b → a ≡ b
joins_same Unread Rest one a b x y = x ∙ sym y
joins_same (Bad fault) Rest one a b x y = x ∙ sym y
joins_same (Good segments) Rest one a b x y = x.2 ∙ ap (joined_after segments) (one x.0 y.0 x.1 y.1) ∙ sym y.2

-- the files of rows have one outcome
pub joined_once : (held : FileMap) (paths : List (List ℕ)) (a b : Joined) → AreJoined held paths a → AreJoined held paths b → a ≡ b
joined_once held [] a b p q = p ∙ sym q
joined_once held (path ∷ paths) a b p q = joins_same q.0 (AreJoined held paths) (joined_once held paths) a b
    (subst (λ (f : FileFound). JoinsFound f (AreJoined held paths) a) (row_once held path p.0 q.0 p.1 q.1) p.2) q.2

module _ (held : FileMap) (state : Machine) where
  module _ (id : ℕ) (p q : Sees held state id) where
    user_same : p.user ≡ q.user
    user_same = same_Some p.user q.user (sym p.made ∙ q.made)

    segments_same : p.segments ≡ q.segments
    segments_same = one_load held q.user.path p.segments q.segments (subst (λ (u : User). HoldsLoad held u.path p.segments) user_same p.holds) q.holds

    pub segment_same : (number : ℕ) (s t : Segment) → segment_at p.segments number ≡ Some s → segment_at q.segments number ≡ Some t → s ≡ t
    segment_same number s t is is' = same_Some s t (sym is ∙ ap (λ (ss : List Segment). segment_at ss number) segments_same ∙ is')

  some_none : (id : ℕ) (user : User) → user_of state.users id ≡ Some user → user_of state.users id ≡ None → ⊥
  some_none id user p q = let clash : Some user ≡ None = sym p ∙ q in cc

  pub seen_once : (id : ℕ) (a b : Option UserSeen) → IsSeen held state id a → IsSeen held state id b → a ≡ b
  seen_once id None None p q = refl
  seen_once id None (Some seen) p q = absurd (some_none id q.0.user q.0.made p)
  seen_once id (Some seen) None p q = absurd (some_none id p.0.user p.0.made q)
  seen_once id (Some a) (Some b) p q =
      let user = user_same id p.0 q.0 in
      let segments = segments_same id p.0 q.0 in
      ap (λ (x : UserSeen). Some x) (p.1 ∙ ap (λ (u : User). seen_of u p.0.segments) user ∙ ap (λ (ss : List Segment). seen_of q.0.user ss) segments ∙ sym q.1)

  decided : (r : Refuse) (one other : Reply) (next last : Machine) (P Q : Type 0) → (P → Q → AreSame one other next last)
      → Decides r state one next P → Decides r state other last Q → AreSame one other next last
  decided None one other next last P Q f p q = f p q
  decided (Some fault) one other next last P Q f p q = (p.0 ∙ sym q.0, p.1 ∙ sym q.1)

  does_once : (id : ℕ) (refusal : Option UserSeen → Refuse) (one other : Reply) (next last : Machine) (P Q : User → Type 0)
      → ((user : User) → user_of state.users id ≡ Some user → P user → Q user → AreSame one other next last)
      → Does held state id refusal one next P → Does held state id refusal other last Q → AreSame one other next last
  does_once id refusal one other next last P Q f p q =
      let same = seen_once id p.seen q.seen p.is_seen q.is_seen in
      decided (refusal q.seen) one other next last ((user : User) × (user_of state.users id ≡ Some user) × P user) ((user : User) × (user_of state.users id ≡ Some user) × Q user)
      (λ x y. let user = same_Some y.0 x.0 (sym y.1 ∙ x.1) in f x.0 x.1 x.2 (subst Q user y.2))
      (subst (λ (s : Option UserSeen). Decides (refusal s) state one next ((user : User) × (user_of state.users id ≡ Some user) × P user)) same p.is) q.is

  -- ---- where an address lies

  -- an active segment has its handle, whose block is there
  pub active_is : (o : Option Handle) (h : Handle) (first : ℕ) → presence state.slots o ≡ Active h first
      → (o ≡ Some h) × ((block : Block) × (get state.slots h ≡ Some block) × (block.at ≡ Some first))
  active_is None h first is = absurd cc
  active_is (Some k) h first is = in_slot (get state.slots k) refl is
    where
      at_place : (block : Block) (at : Option ℕ) (locked : Bool) → get state.slots k ≡ Some block → block.at ≡ at → lies_at k at locked ≡ Active h first
          → (Some k ≡ Some h) × ((block : Block) × (get state.slots h ≡ Some block) × (block.at ≡ Some first))
      at_place block None locked g a is = absurd cc
      at_place block (Some x) false g a is = absurd cc
      at_place block (Some x) true g a is =
          let same : k ≡ h = cc in
          let place : x ≡ first = cc in
          (ap (λ (j : Handle). Some j) same, (block, ap (get state.slots) (sym same) ∙ g, a ∙ ap (λ (n : ℕ). Some n) place))

      in_slot : (b : Option Block) → get state.slots k ≡ b → lies_in k b ≡ Active h first
          → (Some k ≡ Some h) × ((block : Block) × (get state.slots h ≡ Some block) × (block.at ≡ Some first))
      in_slot None g is = absurd cc
      in_slot (Some block) g is = at_place block block.at block.locked g refl is

  -- a live handle's slot has the block that it reaches
  live_block : (h : Handle) (block : Block) → get state.slots h ≡ Some block → block_in (slot_at state.slots h.slot) ≡ Some block
  live_block h block is = go ((slot_at state.slots h.slot).generation == h.generation) (block_in (slot_at state.slots h.slot)) is
    where
      go : (b : Bool) (o : Option Block) → cond b o None ≡ Some block → o ≡ Some block
      go true o e = e
      go false o e = absurd cc

  module _ (apart : IsApartState held state) where
    holds_byte : (address id n offset : ℕ) → (p : IsAt held state address id n offset) → HoldsByte address (slot_at state.slots p.h.slot)
    holds_byte address id n offset p =
        let there = active_is (handle_at (handles_of p.sees.user) n) p.h p.first p.active in
        let block = there.1.0 in
        let wide = apart.wide id n p.sees p.s p.h block p.is there.0 there.1.1 in
        let sum : p.first + offset ≡ address = p.sum in
        let inside : offset < p.s.fields.length = p.inside in
        rw (live_block p.h block there.1.1, there.1.2) (omega arith, omega arith)

    pub at_once : (address id other n m i j : ℕ) → IsAt held state address id n i → IsAt held state address other m j → (id ≡ other) × (n ≡ m) × (i ≡ j)
    at_once address id other n m i j p q =
        let one = active_is (handle_at (handles_of p.sees.user) n) p.h p.first p.active in
        let two = active_is (handle_at (handles_of q.sees.user) m) q.h q.first q.active in
        let slot = apart.apart.apart p.h.slot q.h.slot address (holds_byte address id n i p) (holds_byte address other m j q) in
        let same = apart.once id other n m p.sees q.sees p.h q.h one.0 two.0 slot in
        let sees : Sees held state other = subst (Sees held state) same.0 p.sees in
        let handles : handle_at (handles_of p.sees.user) n ≡ handle_at (handles_of q.sees.user) m =
        ap (λ (u : User). handle_at (handles_of u) n) (same_Some p.sees.user q.sees.user (sym p.sees.made ∙ ap (user_of state.users) same.0 ∙ q.sees.made))
        ∙ ap (handle_at (handles_of q.sees.user)) same.1 in
        let first : Active p.h p.first ≡ Active q.h q.first = sym p.active ∙ ap (presence state.slots) handles ∙ q.active in
        let begin : p.first ≡ q.first = cc in
        (same.0, same.1, omega (arith, begin, p.sum, q.sum))

    located_once : (address : ℕ) (a b : AddressPlace) → IsLocated held state address a → IsLocated held state address b → a ≡ b
    located_once address Nowhere Nowhere p q = refl
    located_once address Nowhere (In id n i) p q = absurd (p id n i q)
    located_once address (In id n i) Nowhere p q = absurd (q id n i p)
    located_once address (In id n i) (In other m j) p q = let same = at_once address id other n m i j p q in cc (same.0, same.1, same.2)

  -- ---- bytes

  pub stands_once : (id number : ℕ) (a b : List ℕ) → StandsIn held state id number a → StandsIn held state id number b → a ≡ b
  stands_once id number a b p q =
      let user = user_same id p.sees q.sees in
      let s = segment_same id p.sees q.sees number p.s q.s p.is q.is in
      p.bytes_are
      ∙ ap (λ (u : User). stands (setting_in state id u) (held_at u number).pokes p.s) user
      ∙ ap (λ (t : Segment). stands (setting_in state id q.sees.user) (held_at q.sees.user number).pokes t) s
      ∙ sym q.bytes_are

  module _ (Makes : MakesRoom) (makes : IsOnce Makes) where
    -- ---- placement

    lands_once : (path : List ℕ) (id : ℕ) (heads : List SegmentHead) (users : User → List (Option User)) (put : Put) (one other : Reply) (next last : Machine)
        → Lands state path id heads users put one next → Lands state path id heads users put other last → AreSame one other next last
    lands_once path id heads users NoSlots one other next last p q = (p.0 ∙ sym q.0, p.1 ∙ sym q.1)
    lands_once path id heads users (Lacks i) one other next last p q = (p.0 ∙ sym q.0, p.1 ∙ sym q.1)
    lands_once path id heads users (PutIn hs x) one other next last p q = (p.0 ∙ sym q.0, p.1 ∙ sym q.1)

    begins_once : (slots : Slots) (path : List ℕ) (id : ℕ) (segments : List Segment) (users : User → List (Option User)) (one other : Reply) (next last : Machine)
        → Begins Makes state slots path id segments users one next → Begins Makes state slots path id segments users other last → AreSame one other next last
    begins_once slots path id segments users one other next last p q =
        let put = put_once Makes makes state.banks id slots (wants_of (map head_of segments)) p.put q.put p.is_put q.is_put in
        lands_once path id (map head_of segments) users q.put one other next last
        (subst (λ (put : Put). Lands state path id (map head_of segments) users put one next) put p.lands) q.lands

    -- ---- load

    joins_once : (path : List ℕ) (segments : List Segment) (joined : Joined) (one other : Reply) (next last : Machine) → LoadsJoined Makes state path segments joined one next
        → LoadsJoined Makes state path segments joined other last → AreSame one other next last
    joins_once path segments (Stops reads why) one other next last p q = (p.0 ∙ sym q.0, p.1 ∙ sym q.1)
    joins_once path segments (Joins all) one other next last p q = decided (lost_refusal (map (map head_of) all) segments) one other next last _ _
        (λ x y. begins_once state.slots path (first_id + length state.users) segments (begun_users state (paths_of segments) all) one other next last x y) p q

    loads_once : (path : List ℕ) (found : FileFound) (one other : Reply) (next last : Machine) → LoadsFound Makes held state path found one next → LoadsFound Makes held state path found other last → AreSame one other next last
    loads_once path Unread one other next last p q = (p.0 ∙ sym q.0, p.1 ∙ sym q.1)
    loads_once path (Bad fault) one other next last p q = (p.0 ∙ sym q.0, p.1 ∙ sym q.1)
    loads_once path (Good segments) one other next last p q = decided (rows_refusal (length state.users) (length (paths_of segments))) one other next last _ _
        (λ x y. joins_once path segments y.0 one other next last
        (subst (λ (j : Joined). LoadsJoined Makes state path segments j one next) (joined_once held (paths_of segments) x.0 y.0 x.1 y.1) x.2) y.2) p q

    load_once : (path : List ℕ) (one other : Reply) (next last : Machine) → StepsLoad Makes held state path one next → StepsLoad Makes held state path other last → AreSame one other next last
    load_once path one other next last p q =
        decided (load_refusal (length state.users)) one other next last ((found : FileFound) × IsFound held path found × LoadsFound Makes held state path found one next) ((found : FileFound) × IsFound held path found × LoadsFound Makes held state path found other last)
        (λ x y. loads_once path y.0 one other next last (subst (λ (f : FileFound). LoadsFound Makes held state path f one next) (found_once held path x.0 y.0 x.1 y.1) x.2) y.2) p q

    -- ---- activation

    no_handle : (o : Option Handle) → o ≡ None → IsSome o → ⊥
    no_handle None e is = absurd cc
    no_handle (Some h) e is = cc

    some_handle : (h : Handle) → new_handle state.slots ≡ Some h → new_handle state.slots ≡ None → ⊥
    some_handle h p q = let clash : Some h ≡ None = sym p ∙ q in cc

    anew_same : (id : ℕ) (user : User) (number : ℕ) (want : Want) (h : Handle) (a b : Activation) → ComesAnew Makes state id user number want h a → ComesAnew Makes state id user number want h b → a ≡ b
    anew_same id user number want h OutOfSlots b p q = absurd p
    anew_same id user number want h OutOfRoom OutOfSlots p q = absurd q
    anew_same id user number want h OutOfRoom OutOfRoom p q = refl
    anew_same id user number want h OutOfRoom (Made y last) p q = absurd (p q.1.address q.1.room q.1.makes)
    anew_same id user number want h (Made x next) OutOfSlots p q = absurd q
    anew_same id user number want h (Made x next) OutOfRoom p q = absurd (q p.1.address p.1.room p.1.makes)
    anew_same id user number want h (Made x next) (Made y last) p q =
        let same = anew_once Makes makes state.banks state.slots want h p.0 q.0 p.1 q.1 in
        let place : x ≡ y = sym p.2 ∙ same.1 ∙ q.2 in
        ap (λ (n : ℕ). Made n next) place ∙ ap (λ (m : Machine). Made y m) (p.3
        ∙ ap (λ (t : Slots). with_both state id (with_block_changed active_block t h) (Some (with_segment user number (fresh (Some h))))) same.0 ∙ sym q.3)

    first_same : (id : ℕ) (user : User) (number : ℕ) (want : Want) (a b : Activation) → ComesFirst Makes state id user number want a → ComesFirst Makes state id user number want b → a ≡ b
    first_same id user number want OutOfSlots OutOfSlots p q = refl
    first_same id user number want OutOfSlots OutOfRoom p q = absurd (no_handle (new_handle state.slots) p q.0)
    first_same id user number want OutOfSlots (Made y last) p q = absurd (some_handle q.0 q.2.handle p)
    first_same id user number want OutOfRoom OutOfSlots p q = absurd (no_handle (new_handle state.slots) q p.0)
    first_same id user number want OutOfRoom OutOfRoom p q = refl
    first_same id user number want OutOfRoom (Made y last) p q = absurd (p.1 q.2.address q.2.room q.2.makes)
    first_same id user number want (Made x next) OutOfSlots p q = absurd (some_handle p.0 p.2.handle q)
    first_same id user number want (Made x next) OutOfRoom p q = absurd (q.1 p.2.address p.2.room p.2.makes)
    first_same id user number want (Made x next) (Made y last) p q =
        let same = puts_once Makes makes state.banks id true 0 false state.slots want p.0 q.0 p.1 q.1 p.2 q.2 in
        let place : x ≡ y = sym p.3 ∙ same.2 ∙ q.3 in
        ap (λ (n : ℕ). Made n next) place ∙ ap (λ (m : Machine). Made y m) (p.4
        ∙ ap (λ (k : Handle). with_both state id p.1 (Some (with_segment user number (fresh (Some k))))) same.0
        ∙ ap (λ (t : Slots). with_both state id t (Some (with_segment user number (fresh (Some q.0))))) same.1 ∙ sym q.4)

    activates_once : (id : ℕ) (user : User) (number : ℕ) (want : Want) (where' : Presence) (a b : Activation) → Activates Makes state id user number want where' a → Activates Makes state id user number want where' b → a ≡ b
    activates_once id user number want (Active h x) a b p q = p ∙ sym q
    activates_once id user number want (Idle h x) a b p q = p ∙ sym q
    activates_once id user number want (Purged h) a b p q = anew_same id user number want h a b p q
    activates_once id user number want Absent a b p q = first_same id user number want a b p q

    answers_once : (number : ℕ) (a b : Activation) (of : ℕ → Reply) (one other : Reply) (next last : Machine) → a ≡ b → Answers state number a of one next → Answers state number b of other last → AreSame one other next last
    answers_once number a b of one other next last same p q = go b (subst (λ (o : Activation). Answers state number o of one next) same p) q
      where
        go : (o : Activation) → Answers state number o of one next → Answers state number o of other last → AreSame one other next last
        go OutOfSlots p q = (p.0 ∙ sym q.0, p.1 ∙ sym q.1)
        go OutOfRoom p q = (p.0 ∙ sym q.0, p.1 ∙ sym q.1)
        go (Made address m) p q = (p.0 ∙ sym q.0, p.1 ∙ sym q.1)

    active_once : (id number : ℕ) (of : ℕ → Reply) (one other : Reply) (next last : Machine) → MakesActive Makes held state id number of one next → MakesActive Makes held state id number of other last → AreSame one other next last
    active_once id number of one other next last p q =
        let user = user_same id p.sees q.sees in
        let s = segment_same id p.sees q.sees number p.s q.s p.is q.is in
        let first : Activates Makes state id q.sees.user number (want_of (head_of q.s)) (presence_at state.slots (handles_of q.sees.user) number) p.outcome =
        subst (λ (t : Segment). Activates Makes state id q.sees.user number (want_of (head_of t)) (presence_at state.slots (handles_of q.sees.user) number) p.outcome) s
        (subst (λ (u : User). Activates Makes state id u number (want_of (head_of p.s)) (presence_at state.slots (handles_of u) number) p.outcome) user p.activates) in
        answers_once number p.outcome q.outcome of one other next last
        (activates_once id q.sees.user number (want_of (head_of q.s)) (presence_at state.slots (handles_of q.sees.user) number) p.outcome q.outcome first q.activates) p.answers q.answers

    -- ---- restart

    restart_once : (id : ℕ) (one other : Reply) (next last : Machine) → StepsRestart Makes held state id one next → StepsRestart Makes held state id other last → AreSame one other next last
    restart_once id one other next last p q =
        let user = user_same id p.sees q.sees in
        let segments = segments_same id p.sees q.sees in
        let Is : User → List Segment → Reply → Machine → Type 0 = λ (u : User) (ss : List Segment) (r : Reply) (m : Machine).
        Either (are_there state.slots (map head_of ss) (handles_of u) 1) (RestartsInPlace state id u (map head_of ss) r m)
        (Begins Makes state (without_user state.slots id) u.path id ss (again_users state id u) r m) in
        go (are_there state.slots (map head_of q.sees.segments) (handles_of q.sees.user) 1)
        (subst (λ (ss : List Segment). Is q.sees.user ss one next) segments (subst (λ (u : User). Is u p.sees.segments one next) user p.is)) q.is
      where
        go : (b : Bool)
            → Either b (RestartsInPlace state id q.sees.user (map head_of q.sees.segments) one next)
            (Begins Makes state (without_user state.slots id) q.sees.user.path id q.sees.segments (again_users state id q.sees.user) one next)
            → Either b (RestartsInPlace state id q.sees.user (map head_of q.sees.segments) other last)
            (Begins Makes state (without_user state.slots id) q.sees.user.path id q.sees.segments (again_users state id q.sees.user) other last)
            → AreSame one other next last
        go true x y = (x.0 ∙ sym y.0, x.1 ∙ sym y.1)
        go false x y = begins_once (without_user state.slots id) q.sees.user.path id q.sees.segments (again_users state id q.sees.user) one other next last x y

    shut_down_once : (id : ℕ) (keep : Bool) (user : User) (next last : Machine) → StepsShutDown state id keep user next → StepsShutDown state id keep user last → next ≡ last
    shut_down_once id true user next last p q = p ∙ sym q
    shut_down_once id false user next last p q = p ∙ sym q

    -- ---- the script's blocks

    alloc_once : (want : Want) (locked : Bool) (level : ℕ) (movable : Bool) (one other : Reply) (next last : Machine) → StepsAlloc Makes state want locked level movable one next → StepsAlloc Makes state want locked level movable other last → AreSame one other next last
    alloc_once want locked level movable one other next last (IsPlaced h x p r n) (IsPlaced k y q s m) =
        let same = puts_once Makes makes state.banks 0 locked level movable state.slots want h k x y p q in
        (r ∙ ap (λ (j : Handle). Placed j p.address) same.0 ∙ ap (λ (a : ℕ). Placed k a) same.2 ∙ sym s, n ∙ ap (λ (t : Slots). with_slots state t) same.1 ∙ sym m)
    alloc_once want locked level movable one other next last (IsPlaced h x p r n) (HasNoHandle e s m) = absurd (some_handle h p.handle e)
    alloc_once want locked level movable one other next last (IsPlaced h x p r n) (HasNoRoom is lacks s m) = absurd (lacks p.address p.room p.makes)
    alloc_once want locked level movable one other next last (HasNoHandle e r n) (IsPlaced k y q s m) = absurd (some_handle k q.handle e)
    alloc_once want locked level movable one other next last (HasNoHandle e r n) (HasNoHandle f s m) = (r ∙ sym s, n ∙ sym m)
    alloc_once want locked level movable one other next last (HasNoHandle e r n) (HasNoRoom is lacks s m) = absurd (no_handle (new_handle state.slots) e is)
    alloc_once want locked level movable one other next last (HasNoRoom is lacks r n) (IsPlaced k y q s m) = absurd (lacks q.address q.room q.makes)
    alloc_once want locked level movable one other next last (HasNoRoom is lacks r n) (HasNoHandle e s m) = absurd (no_handle (new_handle state.slots) e is)
    alloc_once want locked level movable one other next last (HasNoRoom is lacks r n) (HasNoRoom is' lacks' s m) = (r ∙ sym s, n ∙ sym m)

    block_once : (h : Handle) (one other : Reply) (next last : Machine)
        → ((block : Block) × (get state.slots h ≡ Some block) × (one ≡ BlockIs (state_of block)) × (next ≡ state))
        → ((block : Block) × (get state.slots h ≡ Some block) × (other ≡ BlockIs (state_of block)) × (last ≡ state)) → AreSame one other next last
    block_once h one other next last x y =
        (x.2 ∙ ap (λ (b : Block). BlockIs (state_of b)) (same_Some x.0 y.0 (sym x.1 ∙ y.1)) ∙ sym y.2, x.3 ∙ sym y.3)

    change_once : (h : Handle) (change : Block → Block) (one other : Reply) (next last : Machine) → StepsChange state h change one next → StepsChange state h change other last → AreSame one other next last
    change_once h change one other next last p q = decided (change_refusal state.slots h) one other next last _ _ (λ x y. (x.0 ∙ sym y.0, x.1 ∙ sym y.1)) p q

    info_once : (id number : ℕ) (user : User) (one other : Reply) (next last : Machine)
        → ((sees : Sees held state id) × (s : Segment) × (segment_at sees.segments number ≡ Some s) × (one ≡ SegmentIs (presence_at state.slots (handles_of user) number) s.fields.length s.fields.kind) × (next ≡ state))
        → ((sees : Sees held state id) × (s : Segment) × (segment_at sees.segments number ≡ Some s) × (other ≡ SegmentIs (presence_at state.slots (handles_of user) number) s.fields.length s.fields.kind) × (last ≡ state))
        → AreSame one other next last
    info_once id number user one other next last x y =
        (x.3 ∙ ap (λ (t : Segment). SegmentIs (presence_at state.slots (handles_of user) number) t.fields.length t.fields.kind) (segment_same id x.0 y.0 number x.1 y.1 x.2 y.2) ∙ sym y.3, x.4 ∙ sym y.4)

    shown_once : (id number at count : ℕ) (one other : Reply) (next last : Machine)
        → ((bytes : List ℕ) × StandsIn held state id number bytes × (one ≡ Shown (take count (drop at bytes))) × (next ≡ state))
        → ((bytes : List ℕ) × StandsIn held state id number bytes × (other ≡ Shown (take count (drop at bytes))) × (last ≡ state)) → AreSame one other next last
    shown_once id number at count one other next last x y =
        (x.2 ∙ ap (λ (bs : List ℕ). Shown (take count (drop at bs))) (stands_once id number x.0 y.0 x.1 y.1) ∙ sym y.2, x.3 ∙ sym y.3)

    -- ---- jsl

    module _ (apart : IsApartState held state) where
      entry_once : (id : ℕ) (t : Option Target) (one other : Reply) (next last : Machine) → EntersEntry Makes held state id t one next → EntersEntry Makes held state id t other last → AreSame one other next last
      entry_once id None one other next last p q = (p.0 ∙ sym q.0, p.1 ∙ sym q.1)
      entry_once id (Some t) one other next last p q =
          let same : p.0 ≡ q.0 = same_Some p.0 q.0 (sym p.1 ∙ q.1) in
          active_once q.0 t.segment (λ address. Entered q.0 t.segment t.offset (address + t.offset)) one other next last
          (subst (λ (n : ℕ). MakesActive Makes held state n t.segment (λ address. Entered n t.segment t.offset (address + t.offset)) one next) same p.2) q.2

      enters_once : (address : ℕ) (place : AddressPlace) (one other : Reply) (next last : Machine) → Enters Makes held state address place one next → Enters Makes held state address place other last → AreSame one other next last
      enters_once address Nowhere one other next last p q = (p.0 ∙ sym q.0, p.1 ∙ sym q.1)
      enters_once address (In id number offset) one other next last p q =
          let s = segment_same id p.0 q.0 number p.1 q.1 p.2 q.2 in
          go (is_table (head_of q.1)) (subst (λ (t : Segment). EntersSegment Makes held state address id number offset t one next) s p.3) q.3
        where
          go : (t : Bool) → Either t (EntersEntry Makes held state id (target_at_code (targets_of q.1) 0 offset) one next) ((one ≡ Entered id number offset address) × (next ≡ state))
              → Either t (EntersEntry Makes held state id (target_at_code (targets_of q.1) 0 offset) other last) ((other ≡ Entered id number offset address) × (last ≡ state)) → AreSame one other next last
          go true p' q' = entry_once id (target_at_code (targets_of q.1) 0 offset) one other next last p' q'
          go false p' q' = (p'.0 ∙ sym q'.0, p'.1 ∙ sym q'.1)

      jsl_once : (id number at : ℕ) (one other : Reply) (next last : Machine) → StepsJsl Makes held state id number at one next → StepsJsl Makes held state id number at other last → AreSame one other next last
      jsl_once id number at one other next last p q =
          let bytes = stands_once id number p.bytes q.bytes p.stands q.stands in
          let four = take 4 (drop at q.bytes) in
          let To : Reply → Machine → Type 0 = λ (r : Reply) (m : Machine). (place : AddressPlace) × IsLocated held state (address_of four) place × Enters Makes held state (address_of four) place r m in
          decided (no_jsl four) one other next last (To one next) (To other last)
          (λ x y. enters_once (address_of four) y.0 one other next last
          (subst (λ (place : AddressPlace). Enters Makes held state (address_of four) place one next) (located_once apart (address_of four) x.0 y.0 x.1 y.1) x.2) y.2)
          (subst (λ (bs : List ℕ). let four = take 4 (drop at bs) in Decides (no_jsl four) state one next
          ((place : AddressPlace) × IsLocated held state (address_of four) place × Enters Makes held state (address_of four) place one next)) bytes p.is) q.is

      -- a command has one reply, and leads to one next state
      pub steps_once : (command : Command) (one other : Reply) (next last : Machine) → Steps Makes held state command one next → Steps Makes held state command other last → AreSame one other next last
      steps_once (Banks banks) one other next last p q = (p.0 ∙ sym q.0, p.1 ∙ sym q.1)
      steps_once (Load path) one other next last p q = load_once path one other next last p q
      steps_once (LoadSegment id number) one other next last p q = does_once id _ one other next last _ _ (λ user made x y. active_once id number _ one other next last x y) p q
      steps_once (UnloadSegment id number) one other next last p q = does_once id _ one other next last _ _ (λ user made x y. (x.0 ∙ sym y.0, x.1 ∙ sym y.1)) p q
      steps_once (Jsl id number at) one other next last p q = does_once id _ one other next last _ _ (λ user made x y. jsl_once id number at one other next last x y) p q
      steps_once (ShutDown id keep) one other next last p q = does_once id _ one other next last _ _ (λ user made x y. (x.0 ∙ sym y.0, shut_down_once id keep user next last x.1 y.1)) p q
      steps_once (Restart id) one other next last p q = does_once id _ one other next last _ _ (λ user made x y. restart_once id one other next last x y) p q
      steps_once (Purge id) one other next last p q =
          let same = seen_once id p.0 q.0 p.1 q.1 in
          decided (purge_refusal q.0 id) one other next last _ _ (λ x y. (x.0 ∙ sym y.0, x.1 ∙ sym y.1)) (rw same at p.2) q.2
      steps_once (Poke id number at byte) one other next last p q = does_once id _ one other next last _ _ (λ user made x y. (x.0 ∙ sym y.0, x.1 ∙ sym y.1)) p q
      steps_once (Bytes id number at count) one other next last p q = does_once id _ one other next last _ _ (λ user made x y. shown_once id number at count one other next last x y) p q
      steps_once (Where address) one other next last p q =
          (p.2 ∙ ap place_reply (located_once apart address p.0 q.0 p.1 q.1) ∙ sym q.2, p.3 ∙ sym q.3)
      steps_once (Info id number) one other next last p q = does_once id _ one other next last _ _ (λ user made x y. info_once id number user one other next last x y) p q
      steps_once (Alloc size attributes address) one other next last p q =
          alloc_once (alloc_want size attributes address) (is_locked attributes) (level_in attributes) (is_movable attributes) one other next last p q
      steps_once (Free h) one other next last p q = decided (free_refusal state.slots h) one other next last _ _ (λ x y. (x.0 ∙ sym y.0, x.1 ∙ sym y.1)) p q
      steps_once (Lock h) one other next last p q = change_once h _ one other next last p q
      steps_once (Unlock h) one other next last p q = change_once h _ one other next last p q
      steps_once (Level h level) one other next last p q = change_once h _ one other next last p q
      steps_once (StateOf h) one other next last p q = decided (state_refusal state.slots h) one other next last _ _ (λ x y. block_once h one other next last x y) p q
      steps_once Room one other next last p q =
          (p.2 ∙ ap (λ (n : ℕ). RoomIs n) (counts_once (IsRoom state.banks state.slots) (2 ^ 24) p.0 q.0 p.1 q.1) ∙ sym q.2, p.3 ∙ sym q.3)
      steps_once Compact one other next last p q =
          let same = slides_once state.banks state.slots p.0 q.0 p.1 q.1 in
          (p.2 ∙ ap (λ (s : Slots). Moved (count_moved state.slots s)) same ∙ sym q.2, p.3 ∙ ap (with_slots state) same ∙ sym q.3)
