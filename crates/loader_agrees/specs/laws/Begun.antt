-- A loader after a program was loaded.
use Rattle.std.proofs.Common.{◌≡◌, ◌⊎◌, inl, inr, ℕ, zero, suc, Bool, true, false, cond, ◌==◌, ◌+◌, ◌<◌, ◌≤◌, List, [], ◌∷◌, length, map, Option, Some, None, IsSome, nat_lt, refl, sym, ap, subst, ◌∙◌, arith}
use Rattle.std.specs.Prelude.{slice_get, slice_set, option_map, not, ◌&&◌}
use Rattle.std.specs.List.{prefix_len}
use Rattle.std.specs.Option.{option_map_or, option_and_then}
use Rattle.std.proofs.lemmas.Option.{same_Some}
use Rattle.std.proofs.lemmas.List.{get_or-set_same, length-map}
use Rattle.std.proofs.lemmas.List.Quantifiers.{position-Some}
use Rattle.std.proofs.lemmas.Bool.Decides.{nat_tests}
use Rattle.omf_format.specs.File.{Segment, segment_at}
use Rattle.omf_io.specs.Files.{FileMap}
use Rattle.iigs_meaning.specs.declared.handles.Handle.{Handle}
use Rattle.iigs_meaning.specs.declared.slots.Slot.{Slot}
use Rattle.iigs_meaning.specs.declared.slots.SlotContent.{SlotContent}
use Rattle.iigs_meaning.specs.declared.slots.SlotContent.TheVariants.{Free, Used, Retired}
use Rattle.iigs_meaning.specs.declared.wants.Want.{Want}
use Rattle.iigs_meaning.specs.declared.wants.Block.{Block}
use Rattle.iigs_meaning.specs.Slots.{slot_at, new_slot, get, used_value, is_free, is_free_content, lowest_free, new_handle, after_take}
use Rattle.iigs_meaning.specs.Placement.{can_purge}
use Rattle.iigs_meaning.specs.Fits.{Slots}
use Rattle.iigs_meaning.specs.Puts.{Puts, PutsAll, placed_block}
use Rattle.loader_machine.specs.Rule.{RoomRule}
use Rattle.iigs_meaning.specs.laws.Left.{IsLeft, AreLeft}
use Rattle.iigs_meaning.specs.laws.SlideRoomLaws.{are_left}
use Rattle.iigs_meaning.specs.laws.Left.IsLeft.{Unmoved, Emptied, Shifted}
use Rattle.iigs_meaning.specs.Memory.{Memory}
use Rattle.loader_machine.specs.declared.seen.SegmentHead.{SegmentHead}
use Rattle.loader_machine.specs.Heads.{head_of, at_number, is_static, wants_of}
use Rattle.loader_machine.specs.State.{HeldSegment, User, absent, no_pokes, first_id, max_users, held_at}
use Rattle.loader_machine.specs.Presences.{handle_at, presence, presence_at, there_at, is_active}
use Rattle.loader_machine.specs.Found.{HoldsLoad}
use Rattle.loader_machine.specs.Refusals.{load_refusal}
use Rattle.loader_machine.specs.Steps.{held_of_heads}
use Rattle.loader_machine.specs.laws.Words.{started_user, no_far_segment, target_with}
use Rattle.loader_machine.specs.Stands.{Far, setting, setting_with}
use Rattle.loader_machine.specs.laws.StandsLaws.{AreAlike, stands_alike}
use Rattle.load_meaning.specs.laws.CellLaws.{loadable_has}
use Rattle.loader_agrees.specs.Agrees.{LoadedUser, Loaded, UserAgrees, IsSound}
use Rattle.loader_agrees.specs.laws.Frame.{Keeps, Same, Gone, agrees_still}
use Rattle.loader_agrees.specs.Acts.{HasPlaced, started_kept}
use Rattle.loader_agrees.specs.laws.Lists.{number_map}
use Rattle.loader_agrees.specs.laws.Seeing.{has_any}
use Rattle.loader_agrees.specs.laws.Stay.{Stays, placement_keeps, all_stay}

-- ---- a block that was just placed

left_free : (was now : Slot Block) → IsLeft was now → (is_free now ≡ is_free was) × (now.generation ≡ was.generation)
left_free was now = go
  where
    used : (block : Block) (content : SlotContent Block) → used_value content ≡ Some block → is_free_content content ≡ false
    used block Free e = absurd cc
    used block Retired e = refl
    used block (Used b) e = refl

    go : IsLeft was now → (is_free now ≡ is_free was) × (now.generation ≡ was.generation)
    go (Unmoved e) = (ap is_free e, ap (λ (s : Slot Block). s.generation) e)
    go (Emptied block at can e) = (ap is_free e ∙ sym (used block was.content at), ap (λ (s : Slot Block). s.generation) e)
    go (Shifted block at can address e) = (ap is_free e ∙ sym (used block was.content at), ap (λ (s : Slot Block). s.generation) e)

prefix_left : (p : Slot Block → Bool) (xs ys : Slots) → length xs ≡ length ys → ((k : ℕ) → p (slot_at xs k) ≡ p (slot_at ys k)) → prefix_len (λ slot. not (p slot)) xs ≡ prefix_len (λ slot. not (p slot)) ys
prefix_left p [] [] len same = refl
prefix_left p [] (y ∷ ys) len same = absurd (omega arith)
prefix_left p (x ∷ xs) [] len same = absurd (omega arith)
prefix_left p (x ∷ xs) (y ∷ ys) len same =
    ap (λ (t : Bool). cond (not t) (1 + prefix_len (λ z. not (p z)) xs) 0) (same 0)
    ∙ ap (λ (n : ℕ). cond (not (p y)) (1 + n) 0) (prefix_left p xs ys (omega arith) (λ k. same (suc k)))

-- what leaves each slot free or used leaves the lowest free one
pub left_lowest : (slots room : Slots) → AreLeft slots room → lowest_free room ≡ lowest_free slots
left_lowest slots room left =
    ap (λ (n : ℕ). cond (nat_lt n (length room)) (Some n) None) (prefix_left is_free room slots left.len (λ k. (left_free (slot_at slots k) (slot_at room k) (left.each k)).0))
    ∙ ap (λ (m : ℕ). cond (nat_lt (prefix_len (λ x. not (is_free x)) slots) m) (Some (prefix_len (λ x. not (is_free x)) slots)) None) left.len

take_here : (room : Slots) (value : Block) (h : Handle) (place : ℕ) → lowest_free room ≡ Some place → place ≡ h.slot → (slot_at room place).generation ≡ h.generation → get (after_take room value) h ≡ Some value
take_here room value h place lowest slot generation =
    let found = position-Some is_free room place new_slot lowest in
    let taken : after_take room value ≡ slice_set room place (record { generation = (slot_at room place).generation; content = Used value }) = rw lowest refl in
    let here : slot_at (slice_set room place (record { generation = (slot_at room place).generation; content = Used value })) place ≡ record { generation = (slot_at room place).generation; content = Used value } =
    get_or-set_same room place (record { generation = (slot_at room place).generation; content = Used value }) new_slot found.0 in
    ap (λ (t : Slots). get t h) taken ∙ at_slot place slot here
  where
    same : (n m : ℕ) → n ≡ m → cond (n == m) (Some value) None ≡ Some value
    same n m e = let t : (n == m) ≡ true = grind (arith, nat_tests) in rw t refl

    at_slot : (p : ℕ) → p ≡ h.slot → slot_at (slice_set room place (record { generation = (slot_at room place).generation; content = Used value })) p ≡ record { generation = (slot_at room place).generation; content = Used value }
        → get (slice_set room place (record { generation = (slot_at room place).generation; content = Used value })) h ≡ Some value
    at_slot p e here = rw (← e, here) (same (slot_at room place).generation h.generation generation)

put_here : (slots room : Slots) → AreLeft slots room → (value : Block) (h : Handle) → new_handle slots ≡ Some h → get (after_take room value) h ≡ Some value
put_here slots room left value h is = go (lowest_free slots) refl is
  where
    go : (o : Option ℕ) → lowest_free slots ≡ o → option_map (λ place. let new : Handle = record { slot = place; generation = (slot_at slots place).generation } in new) o ≡ Some h → get (after_take room value) h ≡ Some value
    go None e is = absurd cc
    go (Some place) e is =
        let slot : place ≡ h.slot = cc in
        let generation : (slot_at slots place).generation ≡ h.generation = cc in
        take_here room value h place (left_lowest slots room left ∙ e) slot ((left_free (slot_at slots place) (slot_at room place) (left.each place)).1 ∙ generation)

locked_cant : (block : Block) → block.locked ≡ true → can_purge block ≡ true → ⊥
unfolding can_purge
locked_cant block locked can = go (Rattle.std.specs.Prelude.is_some block.at) block.locked (not (block.level == 0)) locked can
  where
    go : (a b c : Bool) → b ≡ true → (a && not b && c) ≡ true → ⊥
    go true true c e e' = cc
    go false true c e e' = cc
    go a false c e e' = cc

-- a locked block stays through all placements
locked_stays : (old new : Slots) (h : Handle) (block : Block) → Stays old new h → get old h ≡ Some block → block.movable ≡ false → block.locked ≡ true → get new h ≡ Some block
locked_stays old new h block stays is fixed locked = elim (stays block is fixed) [
  | inl same ↦ same
  | inr gone ↦ absurd (locked_cant block locked gone.0)
]

-- a new handle's block
pub puts_here : (banks : List ℕ) (slots next : Slots) (want : Want) (user : ℕ) (locked : Bool) (level : ℕ) (movable : Bool) (h : Handle) → (puts : Puts RoomRule banks slots want user locked level movable h next)
    → get next h ≡ Some (placed_block want puts.address user locked level movable)
puts_here banks slots next want user locked level movable h puts =
    ap (λ (t : Slots). get t h) puts.next_is
    ∙ put_here slots puts.room (are_left banks slots want puts.address puts.room puts.makes) (placed_block want puts.address user locked level movable) h puts.handle

-- each new handle is of a block of its want, locked with level 0
pub all_placed : (banks : List ℕ) (user : ℕ) (slots last : Slots) (wants : List Want) (hs : List Handle) → PutsAll RoomRule banks user slots wants hs last → (i : ℕ) (h : Handle) → slice_get hs i ≡ Some h
    → (want : Want) × (address : ℕ) × (slice_get wants i ≡ Some want) × (get last h ≡ Some (placed_block want address user true 0 false))
all_placed banks user slots last [] [] all i h is = absurd cc
all_placed banks user slots last [] (k ∷ hs) all i h is = absurd all
all_placed banks user slots last (want ∷ wants) [] all i h is = absurd all
all_placed banks user slots last (want ∷ wants) (k ∷ hs) all zero h is =
    let handle : k ≡ h = same_Some k h is in
    let puts = all.1 in
    let value = placed_block want puts.address user true 0 false in
    let here = puts_here banks slots all.0 want user true 0 false k puts in
    let there = locked_stays all.0 last k value (all_stay banks user all.0 last wants hs k all.2) here refl refl in
    (want, puts.address, refl, ap (get last) (sym handle) ∙ there)
all_placed banks user slots last (want ∷ wants) (k ∷ hs) all (suc i) h is = all_placed banks user all.0 last wants hs all.2 i h is

pub all_active : (banks : List ℕ) (user : ℕ) (slots last : Slots) (wants : List Want) (hs : List Handle) → PutsAll RoomRule banks user slots wants hs last → (i : ℕ) (h : Handle) → slice_get hs i ≡ Some h
    → is_active (presence last (Some h)) ≡ true
all_active banks user slots last wants hs all i h is = let there = all_placed banks user slots last wants hs all i h is in rw (there.3) refl

pub all_length : (banks : List ℕ) (user : ℕ) (slots last : Slots) (wants : List Want) (hs : List Handle) → PutsAll RoomRule banks user slots wants hs last → length hs ≡ length wants
all_length banks user slots last [] [] all = refl
all_length banks user slots last [] (k ∷ hs) all = absurd all
all_length banks user slots last (want ∷ wants) [] all = absurd all
all_length banks user slots last (want ∷ wants) (k ∷ hs) all = ap (λ (n : ℕ). suc n) (all_length banks user all.0 last wants hs all.2)

-- ---- the places of the segments

pub decide : (t : Bool) → (t ≡ true) ⊎ (t ≡ false)
decide true = inl refl
decide false = inr refl

pub spread_length : (heads : List SegmentHead) (hs : List Handle) → length (held_of_heads heads hs) ≡ length heads
spread_length [] hs = refl
spread_length (f ∷ heads) [] = ap (λ (n : ℕ). suc n) (spread_length heads [])
spread_length (f ∷ heads) (h ∷ hs) = elim (decide (is_static f)) [
  | inl static ↦ rw static (ap (λ (n : ℕ). suc n) (spread_length heads hs))
  | inr other ↦ rw other (ap (λ (n : ℕ). suc n) (spread_length heads (h ∷ hs)))
]

-- none has pokes
spread_pokes : (heads : List SegmentHead) (hs : List Handle) (k : ℕ) → (option_map_or (λ held. held) (slice_get (held_of_heads heads hs) k) absent).pokes ≡ no_pokes
spread_pokes [] hs k = refl
spread_pokes (f ∷ heads) [] zero = refl
spread_pokes (f ∷ heads) [] (suc k) = spread_pokes heads [] k
spread_pokes (f ∷ heads) (h ∷ hs) zero = elim (decide (is_static f)) [ inl static ↦ rw static refl | inr other ↦ rw other refl ]
spread_pokes (f ∷ heads) (h ∷ hs) (suc k) = elim (decide (is_static f)) [ inl static ↦ rw static (spread_pokes heads hs k) | inr other ↦ rw other (spread_pokes heads (h ∷ hs) k) ]

-- each static one has one of the handles
abbrev HasOne : List SegmentHead → List Handle → ℕ → Type 0
HasOne heads hs k = (i : ℕ) × (h : Handle) × (slice_get hs i ≡ Some h) × (slice_get (map (λ (held : HeldSegment). held.handle) (held_of_heads heads hs)) k ≡ Some (Some h))

one_later : (g : SegmentHead) (heads : List SegmentHead) (h : Handle) (hs : List Handle) (k : ℕ) → is_static g ≡ true → HasOne heads hs k → HasOne (g ∷ heads) (h ∷ hs) (suc k)
one_later g heads h hs k e one = (suc one.0, one.1, one.2, rw e one.3)

one_passed : (g : SegmentHead) (heads : List SegmentHead) (h : Handle) (hs : List Handle) (k : ℕ) → is_static g ≡ false → HasOne heads (h ∷ hs) k → HasOne (g ∷ heads) (h ∷ hs) (suc k)
one_passed g heads h hs k e one = (one.0, one.1, one.2, rw e one.3)

one_here : (g : SegmentHead) (heads : List SegmentHead) (h : Handle) (hs : List Handle) → is_static g ≡ true → HasOne (g ∷ heads) (h ∷ hs) zero
one_here g heads h hs e = (zero, h, refl, rw e refl)

wants_cons : (g : SegmentHead) (heads : List SegmentHead) → is_static g ≡ true → length (wants_of (g ∷ heads)) ≡ suc (length (wants_of heads))
wants_cons g heads e = rw e refl

wants_pass : (g : SegmentHead) (heads : List SegmentHead) → is_static g ≡ false → length (wants_of (g ∷ heads)) ≡ length (wants_of heads)
wants_pass g heads e = rw e refl

pub spread_static : (heads : List SegmentHead) (hs : List Handle) → length hs ≡ length (wants_of heads) → (k : ℕ) (f : SegmentHead) → slice_get heads k ≡ Some f → is_static f ≡ true → HasOne heads hs k
spread_static [] hs long k f is static = absurd cc
spread_static (g ∷ heads) [] long zero f is static = absurd (omega (arith, long, wants_cons g heads (ap is_static (same_Some g f is) ∙ static)))
spread_static (g ∷ heads) [] long (suc k) f is static = elim (decide (is_static g)) [
  | inl static' ↦ absurd (omega (arith, long, wants_cons g heads static'))
  | inr other ↦ spread_static heads [] (long ∙ wants_pass g heads other) k f is static
]
spread_static (g ∷ heads) (h ∷ hs) long zero f is static = one_here g heads h hs (ap is_static (same_Some g f is) ∙ static)
spread_static (g ∷ heads) (h ∷ hs) long (suc k) f is static = elim (decide (is_static g)) [
  | inl static' ↦ one_later g heads h hs k static' (spread_static heads hs (omega (arith, long, wants_cons g heads static')) k f is static)
  | inr other ↦ one_passed g heads h hs k other (spread_static heads (h ∷ hs) (long ∙ wants_pass g heads other) k f is static)
]

-- ---- agreement

-- a user more may be made
pub may_load : (made : ℕ) → made < max_users → load_refusal made ≡ None
unfolding load_refusal
may_load made few = let t : nat_lt made max_users ≡ true = grind arith in rw t refl

-- a block that was there is kept while a program is placed
pub begun_keeps : (old new : Memory) (path : List ℕ) (segments : List Segment) (id : ℕ) (entry : Option ℕ) → HasPlaced old path segments id entry new
    → (h : Handle) (block : Block) → get old.slots h ≡ Some block → block.movable ≡ false → Keeps old new h
begun_keeps old new path segments id entry begun h block is fixed = elim (placement_keeps old begun.middle id (wants_of (map head_of segments)) begun.handles h begun.placed block is fixed) [
  | Same slot bytes ↦ Same (ap (λ (t : Slots). get t h) begun.slots ∙ slot)
      (λ there. begun.stay h (rw is refl) ∙ bytes (subst (λ (t : Slots). IsSome (there_at (presence t (Some h)))) begun.slots there))
  | Gone block was can gone ↦ Gone block was can (ap (λ (t : Slots). get t h) begun.slots ∙ gone)
]

module _ (held : FileMap) (old new : Loaded) (path : List ℕ) (segments : List Segment) (id : ℕ) (entry : Option ℕ) (sound : IsSound old.memory old.users)
    (begun : HasPlaced old.memory path segments id entry new.memory) (holds : HoldsLoad held path segments) (ids : List ℕ) where
  abbrev pub user : User
  user = record (started_user path (map head_of segments) begun.handles) { attached = ids }

  abbrev pub kept : LoadedUser
  kept = record (started_kept path (map head_of segments) begun.handles) { attached = ids }

  heads_at : (n : ℕ) (s : Segment) → segment_at segments n ≡ Some s → at_number (map head_of segments) n ≡ Some (head_of s)
  heads_at n s found = number_map head_of segments n ∙ ap (option_map head_of) found

  static_active : (n : ℕ) (s : Segment) → segment_at segments n ≡ Some s → is_static (head_of s) ≡ true → is_active (presence_at new.memory.slots kept.handles n) ≡ true
  static_active zero s found static = absurd cc
  static_active (suc k) s found static =
      let spreads = spread_static (map head_of segments) begun.handles (all_length old.memory.banks id old.memory.slots begun.middle.slots (wants_of (map head_of segments)) begun.handles begun.placed.puts)
      k (head_of s) (heads_at (suc k) s found) static in
      let active = all_active old.memory.banks id old.memory.slots begun.middle.slots (wants_of (map head_of segments)) begun.handles begun.placed.puts spreads.0 spreads.1 spreads.2 in
      let handle : handle_at kept.handles (suc k) ≡ Some spreads.1 = ap (option_and_then (λ (o : Option Handle). o)) spreads.3 in
      ap (λ (o : Option Handle). is_active (presence new.memory.slots o)) handle ∙ subst (λ (t : Slots). is_active (presence t (Some spreads.1)) ≡ true) (sym begun.slots) active

  no_poke : (n : ℕ) → (held_at user n).pokes ≡ no_pokes
  no_poke zero = refl
  no_poke (suc k) = spread_pokes (map head_of segments) begun.handles k

  -- where no segment of an attached user is active
  pub user_agrees : (far : Far) → ((file n : ℕ) → far file n ≡ None) → UserAgrees held new.memory far id kept user
  user_agrees far none = record {
    same = refl;
    segments = segments;
    holds = holds;
    heads = refl;
    count = spread_length (map head_of segments) begun.handles ∙ length-map segments head_of;
    unpoked = λ n s found table. no_poke n;
    statics = λ running n s found static. static_active n s found static;
    begins = λ there n s h found has present.
        let alike : AreAlike segments n s (setting id new.memory.slots kept.handles) (setting_with far id new.memory.slots kept.handles) = record {
          id = refl;
          own = refl;
          static = λ m t is static. refl;
          target = λ table m t is dynamic loaded. refl;
          far = λ table file m above. far_none file m above;
        } in
        let same = stands_alike segments n s (loadable_has holds.file segments holds.loadable n s found) (setting id new.memory.slots kept.handles) (setting_with far id new.memory.slots kept.handles) alike no_pokes in
        rw (no_poke n, ← same) (begun.begins n s h found has);
  }
    where
      far_none : (file m : ℕ) → 2 ≤ file → target_with no_far_segment new.memory.slots kept.handles file m ≡ target_with far new.memory.slots kept.handles file m
      far_none file m above = let other : (file == 1) ≡ false = grind arith in rw other (sym (none file m))

  pub others_agree : (far now : Far) (place : ℕ) (kept' : LoadedUser) (user' : User) → slice_get old.users place ≡ Some (Some kept') → ((file n : ℕ) → 2 ≤ file → now file n ≡ far file n)
      → UserAgrees held old.memory far (first_id + place) kept' user' → UserAgrees held new.memory now (first_id + place) kept' user'
  others_agree far now place kept' user' made same was = agrees_still held old.memory new.memory far now (first_id + place) kept' user' was
      (λ n h found. let one = has_any old sound place kept' made n h found in
      let of' = sound.each place n one.0 h one.1 in
      begun_keeps old.memory new.memory path segments id entry begun h of'.block of'.live of'.fixed) same
