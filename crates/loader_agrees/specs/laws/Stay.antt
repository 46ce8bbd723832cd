-- What a placement leaves of the blocks that were there.
use Rattle.std.proofs.Common.{◌≡◌, ◌≢◌, ◌⊎◌, inl, inr, ℕ, zero, suc, Bool, true, false, cond, ◌==◌, ◌<◌, List, [], ◌∷◌, length, map, Option, Some, None, IsSome, refl, sym, ap, subst, ◌∙◌, arith, get_or}
use Rattle.std.specs.Prelude.{slice_set, ◌&&◌, not, is_some, Contains}
use Rattle.std.proofs.lemmas.Option.{same_Some}
use Rattle.std.specs.Option.{option_map, option_map_or, option_and_then}
use Rattle.std.proofs.lemmas.List.{get_or-set_other}
use Rattle.std.proofs.lemmas.List.Quantifiers.{position-Some}
use Rattle.std.proofs.lemmas.Option.{cond_some}
use Rattle.iigs_meaning.specs.declared.handles.Handle.{Handle}
use Rattle.iigs_meaning.specs.declared.slots.Slot.{Slot}
use Rattle.iigs_meaning.specs.declared.slots.SlotContent.{SlotContent}
use Rattle.iigs_meaning.specs.declared.slots.SlotContent.TheVariants.{Free, Used, Retired}
use Rattle.iigs_meaning.specs.declared.wants.Want.{Want}
use Rattle.iigs_meaning.specs.declared.wants.Block.{Block}
use Rattle.iigs_meaning.specs.Slots.{slot_at, new_slot, get, used_value, is_free, is_free_content, lowest_free, new_handle, after_take}
use Rattle.iigs_meaning.specs.Fits.{Slots, block_in}
use Rattle.iigs_meaning.specs.Placement.{can_purge, emptied_where}
use Rattle.iigs_meaning.specs.Puts.{Puts, PutsAll, placed_block}
use Rattle.iigs_meaning.specs.Slide.{can_move, moved_to}
use Rattle.loader_machine.specs.Rule.{RoomRule}
use Rattle.iigs_meaning.specs.laws.Left.{IsLeft, AreLeft}
use Rattle.iigs_meaning.specs.laws.SlideRoomLaws.{are_left}
use Rattle.iigs_meaning.specs.laws.Left.IsLeft.{Unmoved, Emptied, Shifted}
use Rattle.iigs_meaning.specs.Memory.{Memory, IsThere, AreAllPlaced}
use Rattle.loader_machine.specs.Presences.{presence, there_at, lies_in, lies_at}
use Rattle.loader_agrees.specs.laws.Frame.{Keeps, Same, Gone}

-- a live handle's block that isn't movable is as it was, or it was purgeable and is empty
abbrev pub Stays : Slots → Slots → Handle → Type 0
Stays old new h = (block : Block) → get old h ≡ Some block → block.movable ≡ false
    → (get new h ≡ Some block) ⊎ ((can_purge block ≡ true) × (get new h ≡ Some (record block { at = None })))

-- a handle's block is as it was; or it was purgeable and is empty; or it moves, and is at another address
pub data IsReached (block : Block) (now : Option Block) : Type 0 where
  Kept : now ≡ Some block → IsReached block now
  Purged : can_purge block ≡ true → now ≡ Some (record block { at = None }) → IsReached block now
  Moved : can_move block ≡ true → (address : ℕ) → now ≡ Some (moved_to address block) → IsReached block now

-- so it has a block
pub reached_block : (block : Block) (now : Option Block) → IsReached block now → (b : Block) × (now ≡ Some b)
reached_block block now (Kept e) = (block, e)
reached_block block now (Purged can e) = (record block { at = None }, e)
reached_block block now (Moved can address e) = (moved_to address block, e)

-- ---- room

pub slot_map : (f : Slot Block → Slot Block) (slots : Slots) (place : ℕ) → f new_slot ≡ new_slot → slot_at (map f slots) place ≡ f (slot_at slots place)
slot_map f [] place new = sym new
slot_map f (slot ∷ slots) zero new = refl
slot_map f (slot ∷ slots) (suc place) new = slot_map f slots place new

-- what a handle reaches in a slot
pub in_slot : Slot Block → Handle → Option Block
in_slot slot h = cond (slot.generation == h.generation) (used_value slot.content) None

pub get_is : (slots : Slots) (h : Handle) → get slots h ≡ in_slot (slot_at slots h.slot) h
unfolding in_slot
get_is slots h = refl

never : (b : Bool) (block : Block) → cond b None None ≡ Some block → ⊥
never true block e = cc
never false block e = cc

pub emptied_block : (test : Block → Bool) (slot : Slot Block) (h : Handle) (block : Block) → in_slot slot h ≡ Some block
    → in_slot (emptied_where test slot) h ≡ Some (cond (test block) (record block { at = None }) block)
unfolding in_slot
emptied_block test slot h block = go slot.generation slot.content
  where
    by_test : (generation : ℕ) (b : Block) (t : Bool) → (generation == h.generation) ≡ true
        → in_slot (cond t (record { generation = generation; content = Used (record b { at = None }) }) (record { generation = generation; content = Used b })) h ≡ Some (cond t (record b { at = None }) b)
    by_test generation b true g = rw g refl
    by_test generation b false g = rw g refl

    go : (generation : ℕ) (content : SlotContent Block) → cond (generation == h.generation) (used_value content) None ≡ Some block
        → in_slot (emptied_where test (record { generation = generation; content = content })) h ≡ Some (cond (test block) (record block { at = None }) block)
    go generation Free e = absurd (never (generation == h.generation) block e)
    go generation Retired e = absurd (never (generation == h.generation) block e)
    go generation (Used b) e =
        let both = cond_some (generation == h.generation) b block e in
        subst (λ (x : Block). in_slot (emptied_where test (record { generation = generation; content = Used b })) h ≡ Some (cond (test x) (record x { at = None }) x)) both.1 (by_test generation b (test b) both.0)

-- what a live handle reaches in a slot that is left so
left_in : (was now : Slot Block) (h : Handle) (block : Block) → IsLeft was now → in_slot was h ≡ Some block → IsReached block (in_slot now h)
unfolding in_slot
left_in was now h block left is = go left
  where
    both : (b : Bool) (o : Option Block) → cond b o None ≡ Some block → (b ≡ true) × (o ≡ Some block)
    both true o e = (refl, e)
    both false o e = absurd cc

    here : ((was.generation == h.generation) ≡ true) × (used_value was.content ≡ Some block)
    here = both (was.generation == h.generation) (used_value was.content) is

    go : IsLeft was now → IsReached block (cond (now.generation == h.generation) (used_value now.content) None)
    go (Unmoved e) = Kept (rw e is)
    go (Emptied b at can e) =
        let one : b ≡ block = same_Some b block (sym at ∙ here.1) in
        Purged (subst (λ (x : Block). can_purge x ≡ true) one can) (rw (e, here.0) (ap (λ (x : Block). Some (record x { at = None })) one))
    go (Shifted b at can address e) =
        let one : b ≡ block = same_Some b block (sym at ∙ here.1) in
        Moved (subst (λ (x : Block). can_move x ≡ true) one can) address (rw (e, here.0) (ap (λ (x : Block). Some (moved_to address x)) one))

pub get_left : (slots room : Slots) → AreLeft slots room → (h : Handle) (block : Block) → get slots h ≡ Some block → IsReached block (get room h)
get_left slots room left h block is = rw (get_is room h) (left_in (slot_at slots h.slot) (slot_at room h.slot) h block (left.each h.slot) (sym (get_is slots h) ∙ is))

-- ---- a new handle

pub used_slot : (slots : Slots) (h : Handle) → IsSome (get slots h) → is_free (slot_at slots h.slot) ≡ false
used_slot slots h some = go ((slot_at slots h.slot).generation == h.generation) (slot_at slots h.slot).content some
  where
    go : (b : Bool) (content : SlotContent Block) → IsSome (cond b (used_value content) None) → is_free_content content ≡ false
    go true Free e = absurd cc
    go true (Used block) e = refl
    go true Retired e = refl
    go false content e = absurd cc

-- a live handle's block stays where a new handle is taken
pub take_stays : (slots : Slots) (value : Block) (h : Handle) → IsSome (get slots h) → get (after_take slots value) h ≡ get slots h
take_stays slots value h some = go (lowest_free slots) refl
  where
    go : (o : Option ℕ) → lowest_free slots ≡ o
        → get (option_map_or (λ place. slice_set slots place (record { generation = (slot_at slots place).generation; content = Used value })) o slots) h ≡ get slots h
    go None e = refl
    go (Some place) e =
        let found = position-Some is_free slots place new_slot e in
        let used = used_slot slots h some in
        let ne : h.slot ≢ place = λ same. let free : is_free (slot_at slots h.slot) ≡ true = ap (λ (p : ℕ). is_free (slot_at slots p)) same ∙ found.1 in cc in
        rw (get_or-set_other slots place h.slot (record { generation = (slot_at slots place).generation; content = Used value }) new_slot ne) refl

pub new_apart : (slots : Slots) (k h : Handle) → new_handle slots ≡ Some k → IsSome (get slots h) → h.slot ≢ k.slot
new_apart slots k h is some same = go (lowest_free slots) refl is
  where
    go : (o : Option ℕ) → lowest_free slots ≡ o → option_map (λ place. let new : Handle = record { slot = place; generation = (slot_at slots place).generation } in new) o ≡ Some k → ⊥
    go None e is = cc
    go (Some place) e is =
        let slot : place ≡ k.slot = cc in
        let found = position-Some is_free slots place new_slot e in
        let used = used_slot slots h some in
        let free : is_free (slot_at slots h.slot) ≡ true = ap (λ (p : ℕ). is_free (slot_at slots p)) (same ∙ sym slot) ∙ found.1 in
        cc

-- ---- one placement

pub cant_move : (block : Block) → block.movable ≡ false → can_move block ≡ true → ⊥
unfolding can_move
cant_move block fixed can = go (is_some block.at) block.movable (not block.locked) fixed can
  where
    go : (a b c : Bool) → b ≡ false → (a && b && c) ≡ true → ⊥
    go true true c e e' = cc
    go true false c e e' = cc
    go false b c e e' = cc

module _ (banks : List ℕ) (slots next : Slots) (want : Want) (user : ℕ) (locked : Bool) (level : ℕ) (movable : Bool) (k : Handle) (puts : Puts RoomRule banks slots want user locked level movable k next) where
  abbrev value : Block
  value = placed_block want puts.address user locked level movable

  left : AreLeft slots puts.room
  left = are_left banks slots want puts.address puts.room puts.makes

  after_room : (h : Handle) → IsSome (get puts.room h) → get next h ≡ get puts.room h
  after_room h live = ap (λ (t : Slots). get t h) puts.next_is ∙ take_stays puts.room value h live

  pub put_reaches : (h : Handle) (block : Block) → get slots h ≡ Some block → IsReached block (get next h)
  put_reaches h block is = go (get_left slots puts.room left h block is)
    where
      go : IsReached block (get puts.room h) → IsReached block (get next h)
      go (Kept e) = Kept (after_room h (rw e refl) ∙ e)
      go (Purged can e) = Purged can (after_room h (rw e refl) ∙ e)
      go (Moved can address e) = Moved can address (after_room h (rw e refl) ∙ e)

  pub put_stays : (h : Handle) → Stays slots next h
  put_stays h block is fixed = elim (put_reaches h block is) [
    | Kept e ↦ inl e
    | Purged can e ↦ inr (can, e)
    | Moved can address e ↦ absurd (cant_move block fixed can)
  ]

  pub put_live : (h : Handle) → IsSome (get slots h) → IsSome (get next h)
  put_live h some = go (get slots h) refl some
    where
      go : (o : Option Block) → get slots h ≡ o → IsSome o → IsSome (get next h)
      go None e is = absurd cc
      go (Some block) e is = rw ((reached_block block (get next h) (put_reaches h block e)).1) refl

  pub put_apart : (h : Handle) → IsSome (get slots h) → h.slot ≢ k.slot
  put_apart h some = new_apart slots k h puts.handle some

empty_cant : (block : Block) → can_purge (record block { at = None }) ≡ true → ⊥
unfolding can_purge
empty_cant block e = cc

pub stays_stays : (a b c : Slots) (h : Handle) → Stays a b h → Stays b c h → Stays a c h
stays_stays a b c h one two block is fixed = elim (one block is fixed) [
  | inl same ↦ two block same fixed
  | inr gone ↦ elim (two (record block { at = None }) gone.1 fixed) [
    | inl same ↦ inr (gone.0, same)
    | inr again ↦ absurd (empty_cant block again.0)
  ]
]

-- ---- all of a list

pub all_stay : (banks : List ℕ) (user : ℕ) (slots last : Slots) (wants : List Want) (hs : List Handle) (h : Handle) → PutsAll RoomRule banks user slots wants hs last → Stays slots last h
all_stay banks user slots last [] [] h all = λ block is fixed. inl (ap (λ (t : Slots). get t h) all ∙ is)
all_stay banks user slots last [] (k ∷ hs) h all = absurd all
all_stay banks user slots last (want ∷ wants) [] h all = absurd all
all_stay banks user slots last (want ∷ wants) (k ∷ hs) h all =
    stays_stays slots all.0 last h (put_stays banks slots all.0 want user true 0 false k all.1 h) (all_stay banks user all.0 last wants hs h all.2)

pub all_apart : (banks : List ℕ) (user : ℕ) (slots last : Slots) (wants : List Want) (hs : List Handle) (h : Handle) → PutsAll RoomRule banks user slots wants hs last → IsSome (get slots h)
    → (place : ℕ) (d : ℕ) → place < length (map (λ (k : Handle). k.slot) hs) → get_or (map (λ (k : Handle). k.slot) hs) place d ≢ h.slot
all_apart banks user slots last [] [] h all some place d within = λ same. omega arith
all_apart banks user slots last [] (k ∷ hs) h all some place d within = λ same. all
all_apart banks user slots last (want ∷ wants) [] h all some place d within = λ same. all
all_apart banks user slots last (want ∷ wants) (k ∷ hs) h all some zero d within = λ same. put_apart banks slots all.0 want user true 0 false k all.1 h some (sym same)
all_apart banks user slots last (want ∷ wants) (k ∷ hs) h all some (suc place) d within =
    all_apart banks user all.0 last wants hs h all.2
    (put_live banks slots all.0 want user true 0 false k all.1 h some) place d (omega arith)

-- ---- memory

pub is_there : (memory : Memory) (h : Handle) → IsSome (there_at (presence memory.slots (Some h))) → IsThere memory h.slot
is_there memory h = go ((slot_at memory.slots h.slot).generation == h.generation) (block_in (slot_at memory.slots h.slot))
  where
    at_place : (block : Block) (at : Option ℕ) → IsSome (there_at (lies_at h at block.locked)) → IsSome at
    at_place block None some = absurd cc
    at_place block (Some a) some = refl

    go : (b : Bool) (o : Option Block) → IsSome (there_at (lies_in h (cond b o None))) → IsSome (option_and_then (λ block. block.at) o)
    go true None some = absurd cc
    go true (Some block) some = at_place block block.at some
    go false o some = absurd cc

-- a live handle that a placement doesn't make is kept
pub placement_keeps : (old new : Memory) (user : ℕ) (wants : List Want) (hs : List Handle) (h : Handle) → AreAllPlaced RoomRule old user false wants hs new → (block : Block) → get old.slots h ≡ Some block → block.movable ≡ false → Keeps old new h
placement_keeps old new user wants hs h all block e fixed = elim (all_stay old.banks user old.slots new.slots wants hs h all.puts block e fixed) [
  | inl same ↦ Same (same ∙ sym e) (λ there. all.kept.bytes h.slot apart (is_there new h there))
  | inr gone ↦ Gone block e gone.0 gone.1
]
  where
    apart : ¬ Contains (map (λ (k : Handle). k.slot) hs) h.slot
    apart found = all_apart old.banks user old.slots new.slots wants hs h all.puts (rw e refl) found.0 h.slot found.1 found.2
