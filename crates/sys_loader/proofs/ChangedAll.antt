-- Blocks of several handles that change alike.
use Rattle.std.proofs.Common.{◌≡◌, ◌≢◌, ◌⊎◌, inl, inr, ℕ, zero, suc, Bool, true, false, cond, ◌==◌, List, [], ◌∷◌, ◌++◌, Option, Some, None, IsSome, refl, sym, ap, ◌∙◌, arith}
use Rattle.std.specs.Prelude.{slice_get, is_some, ◌&&◌}
use Rattle.std.specs.Option.{option_map_or}
use Rattle.std.proofs.lemmas.Bool.{cases_eq}
use Rattle.iigs_meaning.specs.declared.handles.Handle.{Handle}
use Rattle.iigs_meaning.specs.declared.slots.SlotContent.TheVariants.{Used}
use Rattle.iigs_meaning.specs.declared.wants.Block.{Block}
use Rattle.iigs_meaning.specs.Slots.{slot_at, get, used_value, with_value}
use Rattle.iigs_meaning.specs.Fits.{Slots, block_in}
use Rattle.loader_machine.specs.Presences.{active_at, lies_at}
use Rattle.loader_machine.specs.Steps.{with_block_changed, changed_all, idle_block, let_go}
use Rattle.loader_agrees.specs.Agrees.{IsSegments}
use Rattle.loader_agrees.specs.laws.Slotted.{slot_apart, live_block}
use Rattle.loader_users.proofs.Shifting.{value_here, value_in}

-- ---- one handle

generation_is : (slots : Slots) (h : Handle) (b : Block) → get slots h ≡ Some b → (slot_at slots h.slot).generation ≡ h.generation
generation_is slots h b is = go ((slot_at slots h.slot).generation == h.generation) refl is
  where
    go : (t : Bool) → ((slot_at slots h.slot).generation == h.generation) ≡ t → cond t (used_value (slot_at slots h.slot).content) None ≡ Some b → (slot_at slots h.slot).generation ≡ h.generation
    go true test e = grind (arith, test)
    go false test e = absurd cc

handle_same : (h k : Handle) → h.slot ≡ k.slot → h.generation ≡ k.generation → h ≡ k
handle_same h k slot generation =
    let made : ℕ → ℕ → Handle = λ s g. record { slot = s; generation = g } in
    ap (λ (s : ℕ). made s h.generation) slot ∙ ap (made k.slot) generation

-- live handles of one slot are one
live_same : (slots : Slots) (h k : Handle) (a b : Block) → get slots h ≡ Some a → get slots k ≡ Some b → h.slot ≡ k.slot → h ≡ k
live_same slots h k a b p q same =
    handle_same h k same (sym (generation_is slots h a p) ∙ ap (λ (n : ℕ). (slot_at slots n).generation) same ∙ generation_is slots k b q)

module _ (f : Block → Block) (again : (b : Block) → f (f b) ≡ f b) where
  changed_is : (slots : Slots) (h : Handle) (o : Option Block) → get slots h ≡ o → with_block_changed f slots h ≡ option_map_or (λ b. with_value slots h (f b)) o slots
  changed_is slots h o is = ap (λ (x : Option Block). option_map_or (λ b. with_value slots h (f b)) x slots) is

  here : (slots : Slots) (h : Handle) (b : Block) → get slots h ≡ Some b → get (with_block_changed f slots h) h ≡ Some (f b)
  here slots h b is = ap (λ (t : Slots). get t h) (changed_is slots h (Some b) is) ∙ value_here slots h b (f b) is

  one : (slots : Slots) (h k : Handle) (b : Block) → get slots k ≡ Some b → (get (with_block_changed f slots h) k ≡ Some b) ⊎ (get (with_block_changed f slots h) k ≡ Some (f b))
  one slots h k b is = go (get slots h) refl
    where
      go : (o : Option Block) → get slots h ≡ o → (get (with_block_changed f slots h) k ≡ Some b) ⊎ (get (with_block_changed f slots h) k ≡ Some (f b))
      go None none = inl (ap (λ (t : Slots). get t k) (changed_is slots h None none) ∙ is)
      go (Some c) found = elim (cases_eq k.slot h.slot) [
        | inl same ↦
            let it : h ≡ k = live_same slots h k c b found is (sym same) in
            inr (ap (λ (x : Handle). get (with_block_changed f slots x) k) it ∙ here slots k b is)
        | inr ne ↦ inl (ap (λ (t : Slots). get t k) (changed_is slots h (Some c) found) ∙ slot_apart slots h k (record { generation = h.generation; content = Used (f c) }) ne ∙ is)
      ]

  -- ---- several

  -- a live handle's block is as it was, or changed
  pub all_or : (slots : Slots) (handles : List (Option Handle)) (k : Handle) (b : Block) → get slots k ≡ Some b
      → (get (changed_all f slots handles) k ≡ Some b) ⊎ (get (changed_all f slots handles) k ≡ Some (f b))
  all_or slots [] k b is = inl is
  all_or slots (None ∷ handles) k b is = all_or slots handles k b is
  all_or slots (Some h ∷ handles) k b is = elim (one slots h k b is) [
    | inl same ↦ all_or (with_block_changed f slots h) handles k b same
    | inr new ↦ elim (all_or (with_block_changed f slots h) handles k (f b) new) [
      | inl same ↦ inr same
      | inr twice ↦ inr (twice ∙ ap (λ (x : Block). Some x) (again b))
    ]
  ]

  -- and that of one of the handles is changed
  pub all_here : (slots : Slots) (handles : List (Option Handle)) (k : Handle) (b : Block) (i : ℕ) → get slots k ≡ Some b → slice_get handles i ≡ Some (Some k) → get (changed_all f slots handles) k ≡ Some (f b)
  all_here slots [] k b i is found = absurd cc
  all_here slots (None ∷ handles) k b zero is found = absurd cc
  all_here slots (None ∷ handles) k b (suc i) is found = all_here slots handles k b i is found
  all_here slots (Some h ∷ handles) k b zero is found =
      let it : h ≡ k = same_handle found in
      elim (all_or (with_block_changed f slots h) handles k (f b) (ap (λ (x : Handle). get (with_block_changed f slots x) k) it ∙ here slots k b is)) [
        | inl same ↦ same
        | inr twice ↦ twice ∙ ap (λ (x : Block). Some x) (again b)
      ]
    where
      same_handle : Some (Some h) ≡ Some (Some k) → h ≡ k
      same_handle e = cc
  all_here slots (Some h ∷ handles) k b (suc i) is found = elim (one slots h k b is) [
    | inl same ↦ all_here (with_block_changed f slots h) handles k b i same found
    | inr new ↦ all_here (with_block_changed f slots h) handles k (f b) i new found ∙ ap (λ (x : Block). Some x) (again b)
  ]

  -- a handle of a slot that none of them has stays
  pub all_apart : (slots : Slots) (handles : List (Option Handle)) (k : Handle) → ((i : ℕ) (h : Handle) → slice_get handles i ≡ Some (Some h) → k.slot ≢ h.slot) → get (changed_all f slots handles) k ≡ get slots k
  all_apart slots [] k apart = refl
  all_apart slots (None ∷ handles) k apart = all_apart slots handles k (λ i h found. apart (suc i) h found)
  all_apart slots (Some h ∷ handles) k apart =
      all_apart (with_block_changed f slots h) handles k (λ i g found. apart (suc i) g found) ∙ go (get slots h) refl
    where
      go : (o : Option Block) → get slots h ≡ o → get (with_block_changed f slots h) k ≡ get slots k
      go None none = ap (λ (t : Slots). get t k) (changed_is slots h None none)
      go (Some c) found = ap (λ (t : Slots). get t k) (changed_is slots h (Some c) found) ∙ slot_apart slots h k (record { generation = h.generation; content = Used (f c) }) (apart zero h refl)

  -- what stays of each block stays of those in such slots
  pub all_kept : {X : Type 0} (of : Block → X) (same : (b : Block) → of (f b) ≡ of b) (slots : Slots) (handles : List (Option Handle)) (n : ℕ) (b : Block)
      → block_in (slot_at (changed_all f slots handles) n) ≡ Some b → (was : Block) × (block_in (slot_at slots n) ≡ Some was) × (of was ≡ of b)
  all_kept of same slots [] n b is = (b, is, refl)
  all_kept of same slots (None ∷ handles) n b is = all_kept of same slots handles n b is
  all_kept {X} of same slots (Some h ∷ handles) n b is =
      let was = all_kept of same (with_block_changed f slots h) handles n b is in
      let more = go was.0 was.1 (get slots h) refl in
      (more.0, more.1, more.2 ∙ was.2)
    where
      go : (c : Block) → block_in (slot_at (with_block_changed f slots h) n) ≡ Some c → (o : Option Block) → get slots h ≡ o → (was : Block) × (block_in (slot_at slots n) ≡ Some was) × (of was ≡ of c)
      go c found None none = (c, sym (ap (λ (t : Slots). block_in (slot_at t n)) (changed_is slots h None none)) ∙ found, refl)
      go c found (Some d) live = elim (value_in slots h d (f d) live n c (sym (ap (λ (t : Slots). block_in (slot_at t n)) (changed_is slots h (Some d) live)) ∙ found)) [
        | inl new ↦ (d, ap (λ (m : ℕ). block_in (slot_at slots m)) new.0 ∙ live_block slots h d live, sym (ap of new.1 ∙ same d))
        | inr kept ↦ (c, kept, refl)
      ]

  -- a block in such slots was there before, of the same user
  pub all_in : (user : (b : Block) → (f b).user ≡ b.user) (slots : Slots) (handles : List (Option Handle)) (n : ℕ) (b : Block) → block_in (slot_at (changed_all f slots handles) n) ≡ Some b
      → (was : Block) × (block_in (slot_at slots n) ≡ Some was) × (was.user ≡ b.user)
  all_in user slots handles n b is = all_kept (λ (x : Block). x.user) user slots handles n b is

  -- two lists of handles, one after the other
  pub all_join : (slots : Slots) (xs ys : List (Option Handle)) → changed_all f slots (xs ++ ys) ≡ changed_all f (changed_all f slots xs) ys
  all_join slots [] ys = refl
  all_join slots (None ∷ xs) ys = all_join slots xs ys
  all_join slots (Some h ∷ xs) ys = all_join (with_block_changed f slots h) xs ys

  -- one handle more
  pub all_more : (slots : Slots) (handles : List (Option Handle)) (h : Handle) → changed_all f slots (handles ++ Some h ∷ []) ≡ with_block_changed f (changed_all f slots handles) h
  all_more slots [] h = refl
  all_more slots (None ∷ handles) h = all_more slots handles h
  all_more slots (Some g ∷ handles) h = all_more (with_block_changed f slots g) handles h

  pub all_none : (slots : Slots) (handles : List (Option Handle)) → changed_all f slots (handles ++ None ∷ []) ≡ changed_all f slots handles
  all_none slots [] = refl
  all_none slots (None ∷ handles) = all_none slots handles
  all_none slots (Some g ∷ handles) = all_none (with_block_changed f slots g) handles

-- ---- segments that are let go

pub let_go_active : (b : Block) → IsSome b.at → b.locked ≡ true → let_go b ≡ idle_block b
let_go_active b there locked = go b.at refl there
  where
    go : (o : Option ℕ) → b.at ≡ o → IsSome o → let_go b ≡ idle_block b
    go None e some = absurd cc
    go (Some a) e some = rw (e, locked) refl

pub let_go_idle : (b : Block) → b.locked ≡ false → let_go b ≡ b
let_go_idle b unlocked = go b.at refl
  where
    go : (o : Option ℕ) → b.at ≡ o → let_go b ≡ b
    go None e = rw e refl
    go (Some a) e = rw (e, unlocked) refl

pub let_go_empty : (b : Block) → b.at ≡ None → let_go b ≡ b
let_go_empty b empty = rw empty refl

pub let_go_again : (b : Block) → let_go (let_go b) ≡ let_go b
let_go_again b = go b.at b.locked refl refl
  where
    go : (o : Option ℕ) (l : Bool) → b.at ≡ o → b.locked ≡ l → let_go (let_go b) ≡ let_go b
    go None l at locked = ap let_go (let_go_empty b at)
    go (Some a) true at locked =
        let some : IsSome b.at = rw at refl in
        let idle = let_go_active b some locked in
        ap let_go idle ∙ let_go_idle (idle_block b) refl ∙ sym idle
    go (Some a) false at locked = ap let_go (let_go_idle b locked)

pub let_go_at : (b : Block) → (let_go b).at ≡ b.at
let_go_at b = go (is_some b.at && b.locked)
  where
    go : (t : Bool) → (cond t (idle_block b) b).at ≡ b.at
    go true = refl
    go false = refl

pub let_go_user : (b : Block) → (let_go b).user ≡ b.user
let_go_user b = go (is_some b.at && b.locked)
  where
    go : (t : Bool) → (cond t (idle_block b) b).user ≡ b.user
    go true = refl
    go false = refl

pub let_go_movable : (b : Block) → (let_go b).movable ≡ b.movable
let_go_movable b = go (is_some b.at && b.locked)
  where
    go : (t : Bool) → (cond t (idle_block b) b).movable ≡ b.movable
    go true = refl
    go false = refl

pub let_go_want : (b : Block) → (let_go b).want ≡ b.want
let_go_want b = go (is_some b.at && b.locked)
  where
    go : (t : Bool) → (cond t (idle_block b) b).want ≡ b.want
    go true = refl
    go false = refl

-- none of them is active then
pub let_go_active_at : (h : Handle) (b : Block) → active_at (lies_at h (let_go b).at (let_go b).locked) ≡ None
let_go_active_at h b = go b.at b.locked refl refl
  where
    no_place : (locked : Bool) → active_at (lies_at h None locked) ≡ None
    no_place locked = refl

    go : (o : Option ℕ) (l : Bool) → b.at ≡ o → b.locked ≡ l → active_at (lies_at h (let_go b).at (let_go b).locked) ≡ None
    go None l at locked = ap (λ (x : Block). active_at (lies_at h x.at x.locked)) (let_go_empty b at) ∙ ap (λ (o : Option ℕ). active_at (lies_at h o b.locked)) at
    go (Some a) true at locked = let some : IsSome b.at = rw at refl in
        ap (λ (x : Block). active_at (lies_at h x.at x.locked)) (let_go_active b some locked) ∙ ap (λ (o : Option ℕ). active_at (lies_at h o false)) at
    go (Some a) false at locked = ap (λ (x : Block). active_at (lies_at h x.at x.locked)) (let_go_idle b locked) ∙ ap (λ (o : Option ℕ). active_at (lies_at h o b.locked)) at ∙ ap (λ (l : Bool). active_at (lies_at h (Some a) l)) locked

pub let_go_form : (b : Block) → IsSegments b → IsSegments (let_go b)
let_go_form b form = go (is_some b.at && b.locked)
  where
    go : (t : Bool) → IsSegments (cond t (idle_block b) b)
    go true = inr (refl, refl)
    go false = form
