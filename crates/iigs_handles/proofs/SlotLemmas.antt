-- How the lowest free slot and the count of free ones change with one slot.
use Rattle.std.proofs.Common.{◌≡◌, ℕ, zero, suc, Bool, true, false, cond, ◌+◌, ◌-◌, ◌<◌, ◌≤◌, inl, inr, List, length, replicate, count_by, is_some, min, max, get_or, get_or-set_same, get_or-set_other, arith, sym, ◌∙◌, ◌≢◌, refl}
use Rattle.std.proofs.Math.ListN.{set, length-set}
use Rattle.std.specs.List.{position_or_len}
use Rattle.std.proofs.lemmas.List.Sums.{sum_by-set, position_or_len_is, fails_before_first, passes_at_first}
use Rattle.std.proofs.lemmas.List.Folds.{position_or_len-set}
use Rattle.std.proofs.lemmas.Bool.{cases_lt}
use Rattle.iigs_meaning.specs.declared.slots.Slot.{Slot}
use Rattle.std.specs.Prelude.{None, ◌==◌}
use Rattle.std.proofs.Math.ListN.{get_or-eq_default}
use Rattle.iigs_meaning.specs.declared.slots.SlotContent.{SlotContent}
use Rattle.iigs_meaning.specs.declared.slots.SlotContent.TheVariants.{Free, Used, Retired}
use Rattle.iigs_meaning.specs.declared.handles.Handle.{Handle}
use Rattle.iigs_meaning.specs.Slots.{is_free, is_free_content, slot_at, new_slot, get, used_value}
use Rattle.iigs_handles.specs.Table.{IsSound}

module _ {X : Type 0} (p : X → Bool) (d : X) where
  -- how the count changes with one place
  count_by-set : (xs : List X) (i : ℕ) (y : X) → i < length xs → count_by p (set xs i y) + cond (p (get_or xs i d)) 1 0 ≡ count_by p xs + cond (p y) 1 0
  count_by-set xs i y h = sum_by-set (λ x. cond (p x) 1 0) xs i y d h

  -- once an element is set, nothing passes below both its place and the first that passed
  first_least : (xs : List X) (i m : ℕ) (y : X) → m ≤ position_or_len p xs → m ≤ i → (k : ℕ) → k < m → p (get_or (set xs i y) k d) ≡ false
  first_least xs i m y a b k below =
      let ne : k ≢ i = omega arith in
      let under : k < position_or_len p xs = omega arith in
      rw get_or-set_other (fails_before_first p xs k d under)

  first_here : (xs : List X) (i : ℕ) (y : X) → i < length xs → p y ≡ true → p (get_or (set xs i y) i d) ≡ true
  first_here xs i y h e = rw get_or-set_same e

  first_there : (xs : List X) (i : ℕ) (y : X) → position_or_len p xs < i → i < length xs → p (get_or (set xs i y) (position_or_len p xs) d) ≡ true
  first_there xs i y under h =
      let ne : position_or_len p xs ≢ i = omega arith in
      let inside : position_or_len p xs < length xs = omega arith in
      rw get_or-set_other (passes_at_first p xs d inside)

  -- a place whose new element passes is the first that passes, where none below it passes
  first-above : (xs : List X) (i : ℕ) (y : X) → i < length xs → p y ≡ true → i ≤ position_or_len p xs → position_or_len p (set xs i y) ≡ i
  first-above xs i y h e le = position_or_len_is p (set xs i y) i d
      (omega (arith, length-set {A = X})) (first_least xs i i y le (omega arith)) (λ _. first_here xs i y h e)

  first-below : (xs : List X) (i : ℕ) (y : X) → i < length xs → position_or_len p xs < i → position_or_len p (set xs i y) ≡ position_or_len p xs
  first-below xs i y h lt = position_or_len_is p (set xs i y) (position_or_len p xs) d
      (omega (arith, length-set {A = X})) (first_least xs i (position_or_len p xs) y (omega arith) (omega arith)) (λ _. first_there xs i y lt h)

  first-set : (xs : List X) (i first : ℕ) (y : X) → i < length xs → p y ≡ true → first ≡ position_or_len p xs → min first i ≡ position_or_len p (set xs i y)
  first-set xs i first y h e is = elim (cases_lt (position_or_len p xs) i) [
    | inr le ↦ let new : position_or_len p (set xs i y) ≡ i = first-above xs i y h e le in omega arith
    | inl lt ↦ let new : position_or_len p (set xs i y) ≡ position_or_len p xs = first-below xs i y h lt in omega arith
  ]

  -- up to the first place that passes, none does once that one doesn't
  none_to_first : (xs : List X) (first : ℕ) (y : X) → first ≡ position_or_len p xs → first < length xs → p y ≡ false → (k : ℕ) → k < first + 1 → p (get_or (set xs first y) k d) ≡ false
  none_to_first xs first y is h e k below = elim (cases_lt k first) [
    | inr le ↦ let at : k ≡ first = omega arith in rw (at, get_or-set_same) e
    | inl lt ↦ first_least xs first first y (omega arith) (omega arith) k lt
  ]

  -- one place less, one more, and none
  one_less : (xs : List X) (i : ℕ) (y : X) → i < length xs → p (get_or xs i d) ≡ true → p y ≡ false → count_by p (set xs i y) + 1 ≡ count_by p xs
  one_less xs i y h was e =
      let change : count_by p (set xs i y) + cond true 1 0 ≡ count_by p xs + cond false 1 0 = rw (was, e) at (count_by-set xs i y h) in omega arith

  one_more : (xs : List X) (i : ℕ) (y : X) → i < length xs → p (get_or xs i d) ≡ false → p y ≡ true → count_by p xs + 1 ≡ count_by p (set xs i y)
  one_more xs i y h was e =
      let change : count_by p (set xs i y) + cond false 1 0 ≡ count_by p xs + cond true 1 0 = rw (was, e) at (count_by-set xs i y h) in omega arith

  as_many : (xs : List X) (i : ℕ) (y : X) → i < length xs → p y ≡ p (get_or xs i d) → count_by p xs ≡ count_by p (set xs i y)
  as_many xs i y h same =
      let change : count_by p (set xs i y) + cond (p (get_or xs i d)) 1 0 ≡ count_by p xs + cond (p (get_or xs i d)) 1 0 = rw same at (count_by-set xs i y h) in omega arith

  first_less : (xs : List X) (first : ℕ) (y : X) → first ≡ position_or_len p xs → first < length xs → p y ≡ false → count_by p (set xs first y) + 1 ≡ count_by p xs
  first_less xs first y is h e =
      let inside : position_or_len p xs < length xs = omega arith in
      rw is (one_less xs (position_or_len p xs) y inside (passes_at_first p xs d inside) e)

module _ {T : Type 0} where
  -- a place below the lowest free one isn't free, and neither is the lowest once it is taken
  pub none_below : (slots : List (Slot T)) (first free end : ℕ) (slot : Slot T) → IsSound slots first free end → first < length slots → is_free slot ≡ false → (k : ℕ) → k < first + 1 → is_free (slot_at (set slots first slot) k) ≡ false
  none_below slots first free end slot sound h e = none_to_first is_free new_slot slots first slot sound.lowest h e

  pub counts_one : (slots : List (Slot T)) (first free end : ℕ) (slot : Slot T) → IsSound slots first free end → first < length slots → is_free slot ≡ false → 0 < free
  counts_one slots first free end slot sound h e =
      let less : count_by is_free (set slots first slot) + 1 ≡ count_by is_free slots = first_less is_free new_slot slots first slot sound.lowest h e in
      omega (arith, sound.counted)

  pub IsSound-take : (slots : List (Slot T)) (first free end next : ℕ) (slot : Slot T) → IsSound slots first free end → first < length slots → is_free slot ≡ false → next ≡ position_or_len is_free (set slots first slot) → IsSound (set slots first slot) next (free - 1) (max end (first + 1))
  IsSound-take slots first free end next slot sound h e n = record {
    size = length-set slots first slot ∙ sound.size;
    lowest = n;
    counted = let less : count_by is_free (set slots first slot) + 1 ≡ count_by is_free slots = first_less is_free new_slot slots first slot sound.lowest h e in omega (arith, sound.counted);
    within = omega (arith, sound.within, sound.size, h);
    unused = λ k le. let ne : k ≢ first = omega arith in rw get_or-set_other (sound.unused k (omega arith));
  }

  -- a slot that isn't free lies below the end
  below_end : (slots : List (Slot T)) (first free end place : ℕ) → IsSound slots first free end → is_free (slot_at slots place) ≡ false → place < end
  below_end slots first free end place sound was = elim (cases_lt place end) [
    | inl lt ↦ lt
    | inr le ↦
        let free : is_free (slot_at slots place) ≡ true = rw (sound.unused place le) refl in
        let no : true ≡ false = sym free ∙ was in
        absurd (cc)
  ]

  unused_still : (slots : List (Slot T)) (first free end place : ℕ) (slot : Slot T) → IsSound slots first free end → is_free (slot_at slots place) ≡ false
      → (k : ℕ) → end ≤ k → slot_at (set slots place slot) k ≡ new_slot
  unused_still slots first free end place slot sound was k le =
      let lt = below_end slots first free end place sound was in
      let ne : k ≢ place = omega (arith, lt) in
      rw get_or-set_other (sound.unused k le)

  pub IsSound-free : (slots : List (Slot T)) (first free end place : ℕ) (slot : Slot T) → IsSound slots first free end → place < length slots → is_free (slot_at slots place) ≡ false → is_free slot ≡ true → IsSound (set slots place slot) (min first place) (free + 1) end
  IsSound-free slots first free end place slot sound h was e = record {
    size = length-set slots place slot ∙ sound.size;
    lowest = first-set is_free new_slot slots place first slot h e sound.lowest;
    counted = rw sound.counted (one_more is_free new_slot slots place slot h was e);
    within = sound.within;
    unused = unused_still slots first free end place slot sound was;
  }

  pub IsSound-retire : (slots : List (Slot T)) (first free end place : ℕ) (slot : Slot T) → IsSound slots first free end → place < length slots → is_free (slot_at slots place) ≡ false → is_free slot ≡ false → IsSound (set slots place slot) first free end
  IsSound-retire slots first free end place slot sound h was e = record {
    size = length-set slots place slot ∙ sound.size;
    lowest = sound.lowest ∙ sym (position_or_len-set is_free slots place slot new_slot (e ∙ sym was));
    counted = sound.counted ∙ as_many is_free new_slot slots place slot h (e ∙ sym was);
    within = sound.within;
    unused = unused_still slots first free end place slot sound was;
  }

  used_taken : (same : Bool) (content : SlotContent T) → is_some (cond same (used_value content) None) ≡ true → is_free_content content ≡ false
  used_taken true Free live = cc
  used_taken true (Used value) live = refl
  used_taken true Retired live = refl
  used_taken false content live = cc

  -- a live handle's slot is used
  pub live_taken : (slots : List (Slot T)) (h : Handle) → true ≡ is_some (get slots h) → is_free (slot_at slots h.slot) ≡ false
  live_taken slots h live = used_taken ((slot_at slots h.slot).generation == h.generation) (slot_at slots h.slot).content (sym live)

  -- so it is in the table
  pub live_inside : (slots : List (Slot T)) (h : Handle) → true ≡ is_some (get slots h) → h.slot < length slots
  live_inside slots h live = elim (cases_lt h.slot (length slots)) [
    | inl lt ↦ lt
    | inr le ↦
        let past : slot_at slots h.slot ≡ new_slot = get_or-eq_default slots new_slot le in
        let free : is_free (slot_at slots h.slot) ≡ true = rw past refl in
        let no : true ≡ false = sym free ∙ live_taken slots h live in
        absurd (cc)
  ]

  -- among slots that were never used each is one
  pub unused_slots : (count place : ℕ) → slot_at {T = T} (replicate count new_slot) place ≡ new_slot
  unused_slots zero zero = refl
  unused_slots zero (suc place) = refl
  unused_slots (suc count) zero = refl
  unused_slots (suc count) (suc place) = unused_slots count place
