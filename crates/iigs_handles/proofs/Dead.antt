-- What keeps a dead handle dead.
use Rattle.std.proofs.Common.{◌≡◌, ℕ, Bool, true, false, cond, ◌+◌, ◌<◌, ◌≤◌, ◌⊎◌, inl, inr, ◌↔◌, List, [], ◌∷◌, length, Option, Some, None, IsSome, is_some, get_or, get_or-set_same, get_or-set_other, arith, refl}
use Rattle.std.specs.Prelude.{◌==◌, position}
use Rattle.std.specs.Option.{option_map_or}
use Rattle.std.proofs.lemmas.List.Quantifiers.{position-Some}
use Rattle.std.proofs.Math.ListN.{set, get_or-eq_default}
use Rattle.std.proofs.lemmas.Bool.{cases_lt, cases_eq}
use Rattle.std.proofs.lemmas.Bool.Decides.{nat_tests}
use Rattle.iigs_meaning.specs.declared.handles.Handle.{Handle}
use Rattle.iigs_meaning.specs.declared.slots.Slot.{Slot}
use Rattle.iigs_meaning.specs.declared.slots.SlotContent.{SlotContent}
use Rattle.iigs_meaning.specs.declared.slots.SlotContent.TheVariants.{Free, Used, Retired}
use Rattle.iigs_meaning.specs.Slots.{is_free, is_free_content, slot_at, new_slot, get, used_value, released, IsDead, IsLive, with_slot, after_take, after_release}
use Rattle.iigs_meaning.specs.Runs.{Call, after_call, after_all}
use Rattle.iigs_meaning.specs.Runs.Call.{take, look, change, release, left}

module _ {T : Type 0} where
  -- a slot goes on: its generation doesn't fall, and a retired one stays so
  record GoesOn (old new : Slot T) : Type 0 where
    rises : old.generation ≤ new.generation
    retired : old.content ≡ Retired → new.content ≡ Retired

  dead_goes_on : (old new : Slot T) (g : ℕ) → GoesOn old new → (g < old.generation) ⊎ (old.content ≡ Retired) → (g < new.generation) ⊎ (new.content ≡ Retired)
  dead_goes_on old new g on (inl lt) = let up : old.generation ≤ new.generation = on.rises in inl (omega arith)
  dead_goes_on old new g on (inr r) = inr (on.retired r)

  dead-set : (slots : List (Slot T)) (place : ℕ) (slot : Slot T) (h : Handle) → GoesOn (slot_at slots place) slot → place < length slots → IsDead slots h → IsDead (set slots place slot) h
  dead-set slots place slot h on inside dead = elim (cases_eq h.slot place) [
    | inl same ↦
        let there : get_or (set slots place slot) h.slot new_slot ≡ slot = rw (same, get_or-set_same) refl in
        let was : (h.generation < (slot_at slots place).generation) ⊎ ((slot_at slots place).content ≡ Retired) = rw same at dead in
        rw there (dead_goes_on (slot_at slots place) slot h.generation on was)
    | inr ne ↦ rw get_or-set_other dead
  ]

  some_both : (b : Bool) (o : Option T) → IsSome (cond b o None) → (b ≡ true) × IsSome o
  some_both true o some = (refl, some)
  some_both false o some = absurd (cc)

  -- a handle reaches a value exactly where it is live
  pub live-iff : (slots : List (Slot T)) (h : Handle) → IsSome (get slots h) ↔ IsLive slots h
  live-iff slots h = (
    λ some. let both = some_both ((slot_at slots h.slot).generation == h.generation) (used_value (slot_at slots h.slot).content) some in
        (grind (arith, nat_tests), both.1),
    λ live. let same : ((slot_at slots h.slot).generation == h.generation) ≡ true = grind (arith, nat_tests) in
        rw same live.1,
  )

  none_either : (b : Bool) (c : SlotContent T) → (b ≡ false) ⊎ (c ≡ Retired) → cond b (used_value c) None ≡ None
  none_either true c (inl e) = cc
  none_either true c (inr e) = rw e refl
  none_either false c e = refl

  pub dead_is_stale : (slots : List (Slot T)) (h : Handle) → IsDead slots h → get slots h ≡ None
  dead_is_stale slots h (inl lt) = none_either ((slot_at slots h.slot).generation == h.generation) (slot_at slots h.slot).content (inl (grind (arith, nat_tests)))
  dead_is_stale slots h (inr retired) = none_either ((slot_at slots h.slot).generation == h.generation) (slot_at slots h.slot).content (inr retired)

  -- a used slot isn't retired
  used_not_retired : (c : SlotContent T) → IsSome (used_value c) → (c ≡ Retired) → ⊥
  used_not_retired Free some r = cc
  used_not_retired (Used value) some r = cc
  used_not_retired Retired some r = cc

  free_not_retired : (c : SlotContent T) → is_free_content c ≡ true → (c ≡ Retired) → ⊥
  free_not_retired Free e r = cc
  free_not_retired (Used value) e r = cc
  free_not_retired Retired e r = cc

  -- a live handle's slot is in the table
  inside_live : (slots : List (Slot T)) (h : Handle) → IsLive slots h → h.slot < length slots
  inside_live slots h live = elim (cases_lt h.slot (length slots)) [
    | inl lt ↦ lt
    | inr le ↦
        let past : slot_at slots h.slot ≡ new_slot = get_or-eq_default slots new_slot le in
        let some : IsSome (used_value (slot_at slots h.slot).content) = live.1 in
        let no : IsSome (used_value (new_slot {T = T}).content) = rw past at some in
        absurd (cc)
  ]

  -- where a live handle's slot goes on, the dead stay dead
  dead-cond : (b : Bool) (slots : List (Slot T)) (place : ℕ) (slot : Slot T) (h : Handle) → (b ≡ true → GoesOn (slot_at slots place) slot × (place < length slots)) → IsDead slots h → IsDead (cond b (set slots place slot) slots) h
  dead-cond true slots place slot h on dead = dead-set slots place slot h (on refl).0 (on refl).1 dead
  dead-cond false slots place slot h on dead = dead

  dead-with_slot : (slots : List (Slot T)) (at : Handle) (slot : Slot T) (h : Handle) → at.generation ≤ slot.generation → IsDead slots h → IsDead (with_slot slots at slot) h
  dead-with_slot slots at slot h rises dead = dead-cond (is_some (get slots at)) slots at.slot slot h
      (λ some. let live : IsLive slots at = (live-iff slots at).0 some in (
        record {
          rises = let same : (slot_at slots at.slot).generation ≡ at.generation = live.0 in omega arith;
          retired = λ r. absurd (used_not_retired _ live.1 r);
        },
        inside_live slots at live,
      ))
      dead

  released_rises : (slot : Slot T) (generation : ℕ) → slot ≡ released generation → generation ≤ slot.generation
  released_rises slot generation is = rw is (go (generation == 255))
    where
      go : (b : Bool) → generation ≤ (cond {A = Slot T} b (record { generation = generation; content = Retired }) (record { generation = generation + 1; content = Free })).generation
      go true = omega arith
      go false = omega arith

  dead-place : (o : Option ℕ) (slots : List (Slot T)) (slot : ℕ → Slot T) (h : Handle)
      → ((place : ℕ) → o ≡ Some place → GoesOn (slot_at slots place) (slot place) × (place < length slots))
      → IsDead slots h → IsDead (option_map_or (λ place. set slots place (slot place)) o slots) h
  dead-place None slots slot h on dead = dead
  dead-place (Some place) slots slot h on dead = dead-set slots place (slot place) h (on place refl).0 (on place refl).1 dead

  dead-take : (slots : List (Slot T)) (value : T) (h : Handle) → IsDead slots h → IsDead (after_take slots value) h
  dead-take slots value h dead = dead-place (position is_free slots) slots (λ place. record { generation = (slot_at slots place).generation; content = Used value }) h
      (λ place e. let found = position-Some is_free slots place new_slot e in
      (record { rises = omega arith; retired = λ r. absurd (free_not_retired _ found.1 r) }, found.0))
      dead

  -- every call keeps the dead dead
  dead-call : (slots : List (Slot T)) (call : Call T) (h : Handle) → IsDead slots h → IsDead (after_call slots call) h
  dead-call slots (take value) h dead = dead-take slots value h dead
  dead-call slots (look at) h dead = dead
  dead-call slots (change at value) h dead = dead-with_slot slots at (record { generation = at.generation; content = Used value }) h (omega arith) dead
  dead-call slots (release at) h dead = dead-with_slot slots at (released at.generation) h (released_rises (released at.generation) at.generation refl) dead
  dead-call slots left h dead = dead

  pub dead-all : (slots : List (Slot T)) (h : Handle) (calls : List (Call T)) → IsDead slots h → IsDead (after_all slots calls) h
  dead-all slots h [] dead = dead
  dead-all slots h (call ∷ calls) dead = dead-all (after_call slots call) h calls (dead-call slots call h dead)

  released_dead : (slot : Slot T) (generation : ℕ) → slot ≡ released generation → (generation < slot.generation) ⊎ (slot.content ≡ Retired)
  released_dead slot generation is = rw is (go (generation == 255))
    where
      go : (b : Bool) → let slot : Slot T = cond b (record { generation = generation; content = Retired }) (record { generation = generation + 1; content = Free }) in
          (generation < slot.generation) ⊎ (slot.content ≡ Retired)
      go true = inr refl
      go false = inl (omega arith)

  -- a handle that is released is dead
  pub dead_released : (slots : List (Slot T)) (h : Handle) → IsLive slots h → IsDead (after_release slots h) h
  dead_released slots h live =
      let some : is_some (get slots h) ≡ true = (live-iff slots h).1 live in
      let inside : h.slot < length slots = inside_live slots h live in
      let there : get_or (set slots h.slot (released h.generation)) h.slot new_slot ≡ released h.generation = rw get_or-set_same refl in
      rw (some, there) (released_dead (released h.generation) h.generation refl)
