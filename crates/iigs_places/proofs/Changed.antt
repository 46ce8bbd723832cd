-- Slots with one of them changed.
use Rattle.std.proofs.Common.{◌≡◌, ◌≢◌, inl, inr, ℕ, Bool, true, false, cond, ◌==◌, ◌+◌, ◌<◌, List, map, All, length, get_or, Option, Some, None, IsSome, is_some, arith, refl, subst}
use Rattle.std.specs.Option.{option_map, option_map_or}
use Rattle.std.proofs.Math.ListN.{set, length-set, get_or-eq_default}
use Rattle.std.proofs.lemmas.List.{get_or-set_same, get_or-set_other}
use Rattle.std.proofs.lemmas.Bool.{cases_lt, cases_eq}
use Rattle.std.proofs.lemmas.List.Elements.{All-map}
use Rattle.std.proofs.lemmas.List.Quantifiers.{position-Some}
use Rattle.iigs_meaning.specs.declared.handles.Handle.{Handle}
use Rattle.iigs_meaning.specs.declared.slots.Slot.{Slot}
use Rattle.iigs_meaning.specs.declared.slots.SlotContent.{SlotContent}
use Rattle.iigs_meaning.specs.declared.slots.SlotContent.TheVariants.{Free, Used, Retired}
use Rattle.iigs_meaning.specs.declared.wants.Block.{Block}
use Rattle.iigs_meaning.specs.Slots.{slot_at, new_slot, get, used_value, with_slot, released, after_take, after_release, is_free, is_free_content, new_handle, lowest_free}
use Rattle.iigs_meaning.specs.Fits.{block_in}
use Rattle.iigs_meaning.specs.Placement.{emptied_where, slots_after_purges, is_gone}
use Rattle.iigs_meaning.specs.Puts.{without_user, without_user_in}
use Rattle.iigs_places.specs.Spots.{IsBounded, IsBoundedSlot}
use Rattle.iigs_places.proofs.Extents.{each_slot, all_slots}
use Rattle.iigs_places.proofs.Stays.{StaysIn, Stays, released_none}

-- the other slots stay
pub set_other : (slots : List (Slot Block)) (at : ℕ) (slot : Slot Block) (place : ℕ) → place ≢ at → slot_at (set slots at slot) place ≡ slot_at slots place
set_other slots at slot place ne = get_or-set_other slots at place slot new_slot ne

pub set_here : (slots : List (Slot Block)) (at : ℕ) (slot : Slot Block) → at < length slots → slot_at (set slots at slot) at ≡ slot
set_here slots at slot inside = get_or-set_same slots at slot new_slot inside

some_both : (b : Bool) (o : Option Block) → IsSome (cond b o None) → (b ≡ true) × IsSome o
some_both true o some = (refl, some)
some_both false o some = absurd (cc)

-- a live handle's slot has the block that it reaches
pub live_block : (slots : List (Slot Block)) (h : Handle) (block : Block) → get slots h ≡ Some block → block_in (slot_at slots h.slot) ≡ Some block
live_block slots h block is = go ((slot_at slots h.slot).generation == h.generation) (block_in (slot_at slots h.slot)) is
  where
    go : (b : Bool) (o : Option Block) → cond b o None ≡ Some block → o ≡ Some block
    go true o e = e
    go false o e = absurd (cc)

pub live_in : (slots : List (Slot Block)) (h : Handle) → IsSome (get slots h) → h.slot < length slots
live_in slots h some = elim (cases_lt h.slot (length slots)) [
  | inl lt ↦ lt
  | inr le ↦
      let past : slot_at slots h.slot ≡ new_slot = get_or-eq_default slots new_slot le in
      let both = some_both ((slot_at slots h.slot).generation == h.generation) (block_in (slot_at slots h.slot)) some in
      let no : IsSome {T = Block} None = rw past at both.1 in
      absurd (cc)
]

-- a changed slot
pub with_is : (slots : List (Slot Block)) (h : Handle) (slot : Slot Block) → IsSome (get slots h) → with_slot slots h slot ≡ set slots h.slot slot
with_is slots h slot some = rw some refl

-- where the block in a slot becomes another whose place and size are the same, or none, it stays
pub set_stays : (slots : List (Slot Block)) (at : ℕ) (slot : Slot Block) → at < length slots → StaysIn (slot_at slots at) slot
    → (place : ℕ) → Stays slots (set slots at slot) place
set_stays slots at slot inside stays place = elim (cases_eq place at) [
  | inl eq ↦ rw (eq, set_here slots at slot inside) stays
  | inr ne ↦ rw (set_other slots at slot place ne) (inr refl)
]

pub set_others_stay : (slots : List (Slot Block)) (at : ℕ) (slot : Slot Block) (place : ℕ) → place ≢ at → Stays slots (set slots at slot) place
set_others_stay slots at slot place ne = rw (set_other slots at slot place ne) (inr refl)

-- bounds
pub set_bounded : (slots : List (Slot Block)) (at : ℕ) (slot : Slot Block) → All IsBoundedSlot slots → IsBoundedSlot slot → All IsBoundedSlot (set slots at slot)
set_bounded slots at slot bounded one = all_slots IsBoundedSlot (set slots at slot) (λ place. elim (cases_eq place at) [
  | inl eq ↦ elim (cases_lt at (length slots)) [
    | inl lt ↦ rw (eq, set_here slots at slot lt) one
    | inr le ↦ let past : slot_at (set slots at slot) place ≡ new_slot = get_or-eq_default (set slots at slot) new_slot {n = place} (omega (arith, length-set slots at slot)) in rw past tt
  ]
  | inr ne ↦ rw (set_other slots at slot place ne) (each_slot IsBoundedSlot slots tt bounded place)
])

emptied_bounded : (test : Block → Bool) (slot : Slot Block) → IsBoundedSlot slot → IsBoundedSlot (emptied_where test slot)
emptied_bounded test slot = go slot.generation slot.content
  where
    used : (b : Bool) (generation : ℕ) (block : Block) → IsBounded block
        → IsBoundedSlot (cond b (record { generation = generation; content = Used (record block { at = None }) }) (record { generation = generation; content = Used block }))
    used true generation block bounded = record { want = bounded.want; some = bounded.some; level = bounded.level; ends = tt }
    used false generation block bounded = bounded

    go : (generation : ℕ) (content : SlotContent Block) → IsBoundedSlot (record { generation = generation; content = content })
        → IsBoundedSlot (emptied_where test (record { generation = generation; content = content }))
    go generation Free bounded = tt
    go generation Retired bounded = tt
    go generation (Used block) bounded = used (test block) generation block bounded

pub map_bounded : (test : Block → Bool) (slots : List (Slot Block)) → All IsBoundedSlot slots → All IsBoundedSlot (map (emptied_where test) slots)
map_bounded test slots bounded = All-map IsBoundedSlot (emptied_where test) slots (λ k d inside. emptied_bounded test (get_or slots k d) (bounded k d inside))

released_bounded : (generation : ℕ) → IsBoundedSlot (released generation)
released_bounded generation = go (generation == 255)
  where
    go : (b : Bool) → IsBoundedSlot (cond b (record { generation = generation; content = Retired }) (record { generation = generation + 1; content = Free }))
    go true = tt
    go false = tt

user_bounded : (user : ℕ) (slot : Slot Block) → IsBoundedSlot slot → IsBoundedSlot (without_user_in user slot)
user_bounded user slot = go slot.generation slot.content
  where
    used : (b : Bool) (generation : ℕ) (block : Block) → IsBounded block → IsBoundedSlot (cond b (released generation) (record { generation = generation; content = Used block }))
    used true generation block bounded = released_bounded generation
    used false generation block bounded = bounded

    go : (generation : ℕ) (content : SlotContent Block) → IsBoundedSlot (record { generation = generation; content = content })
        → IsBoundedSlot (without_user_in user (record { generation = generation; content = content }))
    go generation Free bounded = tt
    go generation Retired bounded = tt
    go generation (Used block) bounded = used (block.user == user) generation block bounded

pub users_bounded : (user : ℕ) (slots : List (Slot Block)) → All IsBoundedSlot slots → All IsBoundedSlot (without_user slots user)
users_bounded user slots bounded = All-map IsBoundedSlot (without_user_in user) slots (λ k d inside. user_bounded user (get_or slots k d) (bounded k d inside))

pub gone_bounded : (count : ℕ) (slots : List (Slot Block)) → All IsBoundedSlot slots → All IsBoundedSlot (slots_after_purges slots count)
unfolding slots_after_purges
gone_bounded count slots = map_bounded (is_gone slots count) slots

-- a release
pub release_stays : (slots : List (Slot Block)) (h : Handle) (place : ℕ) → Stays slots (after_release slots h) place
release_stays slots h place = go (is_some (get slots h)) refl
  where
    go : (b : Bool) → is_some (get slots h) ≡ b → Stays slots (cond b (set slots h.slot (released h.generation)) slots) place
    go true live = set_stays slots h.slot (released h.generation) (live_in slots h live) (inl (released_none h.generation)) place
    go false stale = inr refl

pub release_bounded : (slots : List (Slot Block)) (h : Handle) → All IsBoundedSlot slots → All IsBoundedSlot (after_release slots h)
release_bounded slots h bounded = go (is_some (get slots h))
  where
    go : (b : Bool) → All IsBoundedSlot (cond b (set slots h.slot (released h.generation)) slots)
    go true = set_bounded slots h.slot (released h.generation) bounded (released_bounded h.generation)
    go false = bounded

-- a new handle
pub taken : (slots : List (Slot Block)) (h : Handle) (block : Block) → new_handle slots ≡ Some h
    → (after_take slots block ≡ set slots h.slot (record { generation = h.generation; content = Used block })) × (h.slot < length slots)
    × (block_in (slot_at slots h.slot) ≡ None)
taken slots h block is = go (lowest_free slots) refl is
  where
    free_none : (content : SlotContent Block) → is_free_content content ≡ true → used_value content ≡ None
    free_none Free e = refl
    free_none (Used value) e = absurd (cc)
    free_none Retired e = absurd (cc)

    go : (o : Option ℕ) → lowest_free slots ≡ o
        → option_map (λ place. let new : Handle = record { slot = place; generation = (slot_at slots place).generation } in new) o ≡ Some h
        → (option_map_or (λ place. set slots place (record { generation = (slot_at slots place).generation; content = Used block })) o slots
        ≡ set slots h.slot (record { generation = h.generation; content = Used block })) × (h.slot < length slots) × (block_in (slot_at slots h.slot) ≡ None)
    go None none e = absurd (cc)
    go (Some place) there e =
        let slot : place ≡ h.slot = cc in
        let generation : (slot_at slots place).generation ≡ h.generation = cc in
        let found = position-Some is_free slots place new_slot there in (
          rw (generation, slot) refl,
          subst (λ (p : ℕ). p < length slots) slot found.0,
          subst (λ (p : ℕ). block_in (slot_at slots p) ≡ None) slot (free_none (slot_at slots place).content found.1),
        )
