-- The handle that is next, and what leaves it.
use Rattle.std.proofs.Common.{◌≡◌, ◌≢◌, inl, inr, ℕ, Bool, true, false, cond, not, suc, ◌+◌, ◌<◌, nat_lt, List, [], ◌∷◌, map, length, count_by, Some, None, IsSome, arith, refl, sym, ap, ◌∙◌}
use Rattle.std.specs.List.{position_or_len}
use Rattle.std.proofs.lemmas.List.{get_or-map, length-map}
use Rattle.std.proofs.lemmas.List.Sums.{sum_by-cons}
use Rattle.std.proofs.lemmas.Bool.{cases_lt}
use Rattle.std.proofs.lemmas.Bool.Decides.{nat_tests}
use Rattle.iigs_meaning.specs.declared.handles.Handle.{Handle}
use Rattle.iigs_meaning.specs.declared.slots.Slot.{Slot}
use Rattle.iigs_meaning.specs.declared.slots.SlotContent.{SlotContent}
use Rattle.iigs_meaning.specs.declared.slots.SlotContent.TheVariants.{Free, Used, Retired}
use Rattle.iigs_meaning.specs.declared.wants.Block.{Block}
use Rattle.iigs_meaning.specs.Slots.{slot_at, new_slot, is_free, is_free_content, new_handle}
use Rattle.iigs_meaning.specs.Placement.{emptied_where, slots_after_purges, is_gone}

module _ {X : Type 0} (p : X → Bool) where
  step_none : (x : X) (n rest long : ℕ) (b : Bool) → p x ≡ b → cond (p x) 1 0 + n ≡ 0 → (n ≡ 0 → rest ≡ long) → cond (not b) (1 + rest) 0 ≡ suc long
  step_none x n rest long true is e next = let one : cond {A = ℕ} (p x) 1 0 ≡ 1 = rw is refl in absurd (omega arith)
  step_none x n rest long false is e next = let same : rest ≡ long = next (omega arith) in omega arith

  none_first : (xs : List X) → count_by p xs ≡ 0 → position_or_len p xs ≡ length xs
  none_first [] e = refl
  none_first (x ∷ xs) e = step_none x (count_by p xs) (position_or_len p xs) (length xs) (p x) refl
      (sym (sum_by-cons (λ y. cond (p y) 1 0) x xs) ∙ e) (none_first xs)

  step_some : (x : X) (n rest long : ℕ) (b : Bool) → p x ≡ b → 0 < cond (p x) 1 0 + n → (0 < n → rest < long) → cond (not b) (1 + rest) 0 < suc long
  step_some x n rest long true is e next = omega arith
  step_some x n rest long false is e next =
      let none : cond {A = ℕ} (p x) 1 0 ≡ 0 = rw is refl in
      let less : rest < long = next (omega arith) in omega arith

  some_first : (xs : List X) → 0 < count_by p xs → position_or_len p xs < length xs
  some_first [] some = absurd (omega arith)
  some_first (x ∷ xs) some =
      let more : count_by p (x ∷ xs) ≡ cond (p x) 1 0 + count_by p xs = sum_by-cons (λ y. cond (p y) 1 0) x xs in
      step_some x (count_by p xs) (position_or_len p xs) (length xs) (p x) refl (omega arith) (some_first xs)

-- where no slot is free there is no new handle, and else there is one
pub no_handle : (slots : List (Slot Block)) → count_by is_free slots ≡ 0 → new_handle slots ≡ None
no_handle slots none =
    let all : position_or_len is_free slots ≡ length slots = none_first is_free slots none in
    let past : nat_lt (position_or_len is_free slots) (length slots) ≡ false = grind (arith, nat_tests) in
    rw past refl

pub some_handle : (slots : List (Slot Block)) → count_by is_free slots ≢ 0 → IsSome (new_handle slots)
some_handle slots some =
    let first : position_or_len is_free slots < length slots = some_first is_free slots (omega arith) in
    let inside : nat_lt (position_or_len is_free slots) (length slots) ≡ true = grind (arith, nat_tests) in
    rw inside refl

module _ (f : Slot Block → Slot Block) (free : (slot : Slot Block) → is_free (f slot) ≡ is_free slot) (generation : (slot : Slot Block) → (f slot).generation ≡ slot.generation) where
  first_map : (slots : List (Slot Block)) → position_or_len is_free (map f slots) ≡ position_or_len is_free slots
  first_map [] = refl
  first_map (slot ∷ slots) = rw (free slot, first_map slots) refl

  -- what keeps each slot's generation, and which are free, keeps the new handle
  pub same_handle : (slots : List (Slot Block)) → new_handle (map f slots) ≡ new_handle slots
  same_handle slots = elim (cases_lt (position_or_len is_free slots) (length slots)) [
    | inl lt ↦
        let inside : nat_lt (position_or_len is_free slots) (length slots) ≡ true = grind (arith, nat_tests) in
        let same : (slot_at (map f slots) (position_or_len is_free slots)).generation ≡ (slot_at slots (position_or_len is_free slots)).generation =
        ap (λ (s : Slot Block). s.generation) (get_or-map f slots (position_or_len is_free slots) new_slot new_slot lt) ∙ generation (slot_at slots (position_or_len is_free slots)) in
        rw (first_map, length-map, inside) (ap (λ g. let h : Handle = record { slot = position_or_len is_free slots; generation = g } in Some h) same)
    | inr ge ↦
        let past : nat_lt (position_or_len is_free slots) (length slots) ≡ false = grind (arith, nat_tests) in
        rw (first_map, length-map, past) refl
  ]

pub emptied_free : (test : Block → Bool) (slot : Slot Block) → is_free (emptied_where test slot) ≡ is_free slot
emptied_free test slot = go slot.generation slot.content
  where
    used : (b : Bool) (generation : ℕ) (block : Block) → is_free (cond {A = Slot Block} b (record { generation = generation; content = Used (record block { at = None }) }) (record { generation = generation; content = Used block })) ≡ false
    used true generation block = refl
    used false generation block = refl

    go : (generation : ℕ) (content : SlotContent Block) → is_free (emptied_where test (record { generation = generation; content = content })) ≡ is_free_content content
    go generation Free = refl
    go generation Retired = refl
    go generation (Used block) = used (test block) generation block

emptied_generation : (test : Block → Bool) (slot : Slot Block) → (emptied_where test slot).generation ≡ slot.generation
emptied_generation test slot = go slot.generation slot.content
  where
    used : (b : Bool) (generation : ℕ) (block : Block) → (cond {A = Slot Block} b (record { generation = generation; content = Used (record block { at = None }) }) (record { generation = generation; content = Used block })).generation ≡ generation
    used true generation block = refl
    used false generation block = refl

    go : (generation : ℕ) (content : SlotContent Block) → (emptied_where test (record { generation = generation; content = content })).generation ≡ generation
    go generation Free = refl
    go generation Retired = refl
    go generation (Used block) = used (test block) generation block

-- emptying blocks keeps the new handle
pub emptied_handle : (test : Block → Bool) (slots : List (Slot Block)) → new_handle (map (emptied_where test) slots) ≡ new_handle slots
emptied_handle test slots = same_handle (emptied_where test) (emptied_free test) (emptied_generation test) slots

pub gone_handle : (count : ℕ) (slots : List (Slot Block)) → new_handle (slots_after_purges slots count) ≡ new_handle slots
unfolding slots_after_purges
gone_handle count slots = emptied_handle (is_gone slots count) slots
