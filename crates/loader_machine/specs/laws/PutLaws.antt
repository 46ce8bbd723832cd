-- Blocks are put in one way at most, where room is made in one way.
use Rattle.std.proofs.Common.{◌≡◌, ℕ, zero, suc, Bool, true, false, ◌<◌, ◌≤◌, List, [], ◌∷◌, Some, refl, sym, ap, subst, ◌∙◌, arith, inl, inr}
use Rattle.std.specs.Prelude.{slice_get, take}
use Rattle.std.proofs.lemmas.Option.{same_Some}
use Rattle.std.proofs.lemmas.Bool.{cases_lt}
use Rattle.iigs_meaning.specs.declared.handles.Handle.{Handle}
use Rattle.iigs_meaning.specs.declared.wants.Want.{Want}
use Rattle.iigs_meaning.specs.declared.wants.Block.{Block}
use Rattle.iigs_meaning.specs.Slots.{after_take, with_value}
use Rattle.iigs_meaning.specs.Fits.{Slots}
use Rattle.iigs_meaning.specs.Puts.{MakesRoom, LacksRoom, IsOnce, Puts, PutsAnew, PutsAll, LacksRoomAt, placed_block}
use Rattle.iigs_meaning.specs.Room.{CountsBelow}
use Rattle.iigs_meaning.specs.Room.CountsBelow.{none, one_more, no_more}
use Rattle.loader_machine.specs.Steps.{Put, NoSlots, Lacks, PutIn}
use Rattle.loader_machine.specs.laws.Words.{IsPut}

-- a property has one count
pub counts_once : (P : ℕ → Type 0) (limit p q : ℕ) → CountsBelow P limit p → CountsBelow P limit q → p ≡ q
counts_once P _ _ _ none none = refl
counts_once P _ _ _ (one_more limit p one has) (one_more _ q two has') = ap suc (counts_once P limit p q one two)
counts_once P _ _ _ (one_more limit p one has) (no_more _ q two has') = absurd (has' has)
counts_once P _ _ _ (no_more limit p one has) (one_more _ q two has') = absurd (has has')
counts_once P _ _ _ (no_more limit p one has) (no_more _ q two has') = counts_once P limit p q one two

module _ (Makes : MakesRoom) (makes : IsOnce Makes) (banks : List ℕ) where
  -- under a new handle
  module _ (user : ℕ) (locked : Bool) (level : ℕ) (movable : Bool) where
    pub puts_once : (slots : Slots) (want : Want) (h k : Handle) (x y : Slots) → (p : Puts Makes banks slots want user locked level movable h x) → (q : Puts Makes banks slots want user locked level movable k y)
        → (h ≡ k) × (x ≡ y) × (p.address ≡ q.address)
    puts_once slots want h k x y p q =
        let same = makes.room banks slots want p.address q.address p.room q.room p.makes q.makes in (
          same_Some h k (sym p.handle ∙ q.handle),
          p.next_is ∙ ap (λ (r : Slots). after_take r (placed_block want p.address user locked level movable)) same.1 ∙ ap (λ (n : ℕ). after_take q.room (placed_block want n user locked level movable)) same.0 ∙ sym q.next_is,
          same.0,
        )

  -- under a handle whose block is empty
  pub anew_once : (slots : Slots) (want : Want) (h : Handle) (x y : Slots) → (p : PutsAnew Makes banks slots h want x) → (q : PutsAnew Makes banks slots h want y)
      → (x ≡ y) × (p.address ≡ q.address)
  anew_once slots want h x y p q =
      let same = makes.room banks slots want p.address q.address p.room q.room p.makes q.makes in
      let block = same_Some p.block q.block (sym p.was ∙ q.was) in (
        p.next_is
            ∙ ap (λ (r : Slots). with_value r h (placed_block want p.address p.block.user p.block.locked p.block.level false)) same.1
            ∙ ap (λ (n : ℕ). with_value q.room h (placed_block want n p.block.user p.block.locked p.block.level false)) same.0
            ∙ ap (λ (b : Block). with_value q.room h (placed_block want q.address b.user b.locked b.level false)) block
            ∙ sym q.next_is,
        same.0,
      )

  module _ (user : ℕ) where
    puts_all_once : (slots : Slots) (wants : List Want) (hs ks : List Handle) (x y : Slots) → PutsAll Makes banks user slots wants hs x → PutsAll Makes banks user slots wants ks y → (hs ≡ ks) × (x ≡ y)
    puts_all_once slots [] [] [] x y p q = (refl, p ∙ sym q)
    puts_all_once slots [] (h ∷ hs) ks x y p q = absurd p
    puts_all_once slots [] [] (k ∷ ks) x y p q = absurd q
    puts_all_once slots (want ∷ wants) [] ks x y p q = absurd p
    puts_all_once slots (want ∷ wants) (h ∷ hs) [] x y p q = absurd q
    puts_all_once slots (want ∷ wants) (h ∷ hs) (k ∷ ks) x y p q =
        let first = puts_once user true 0 false slots want h k p.0 q.0 p.1 q.1 in
        let rest = puts_all_once q.0 wants hs ks x y (subst (λ (m : Slots). PutsAll Makes banks user m wants hs x) first.1 p.2) q.2 in
        let handles : h ∷ hs ≡ k ∷ ks = cc (first.0, rest.0) in
        (handles, rest.1)

    -- the wants before one that has no room are placed, and where all are placed, that one is too
    none_lacks : (slots : Slots) (wants : List Want) (hs ks : List Handle) (i : ℕ) (want : Want) (x y : Slots) → slice_get wants i ≡ Some want
        → PutsAll Makes banks user slots (take i wants) ks x → PutsAll Makes banks user slots wants hs y → LacksRoom Makes banks x want → ⊥
    none_lacks slots [] hs ks i want x y is p q lacks = absurd cc
    none_lacks slots (w ∷ wants) [] ks i want x y is p q lacks = q
    none_lacks slots (w ∷ wants) (h ∷ hs) [] zero want x y is p q lacks =
        let same : w ≡ want = same_Some w want is in
        let puts = q.1 in
        lacks puts.address puts.room (subst (λ (s : Slots). Makes banks s want puts.address puts.room) (sym p) (subst (λ (v : Want). Makes banks slots v puts.address puts.room) same puts.makes))
    none_lacks slots (w ∷ wants) (h ∷ hs) (k ∷ ks) zero want x y is p q lacks = absurd p
    none_lacks slots (w ∷ wants) (h ∷ hs) [] (suc i) want x y is p q lacks = absurd p
    none_lacks slots (w ∷ wants) (h ∷ hs) (k ∷ ks) (suc i) want x y is p q lacks =
        let first = puts_once user true 0 false slots w k h p.0 q.0 p.1 q.1 in
        none_lacks q.0 wants hs ks i want x y is (subst (λ (m : Slots). PutsAll Makes banks user m (take i wants) ks x) first.1 p.2) q.2 lacks

    take_get : (wants : List Want) (i j : ℕ) → i < j → slice_get (take j wants) i ≡ slice_get wants i
    take_get [] i zero less = refl
    take_get [] i (suc j) less = refl
    take_get (w ∷ wants) i zero less = absurd (omega arith)
    take_get (w ∷ wants) zero (suc j) less = refl
    take_get (w ∷ wants) (suc i) (suc j) less = take_get wants i j (omega arith)

    take_take : (wants : List Want) (i j : ℕ) → i ≤ j → take i (take j wants) ≡ take i wants
    take_take [] zero zero le = refl
    take_take [] zero (suc j) le = refl
    take_take [] (suc i) zero le = refl
    take_take [] (suc i) (suc j) le = refl
    take_take (w ∷ wants) zero zero le = refl
    take_take (w ∷ wants) zero (suc j) le = refl
    take_take (w ∷ wants) (suc i) zero le = absurd (omega arith)
    take_take (w ∷ wants) (suc i) (suc j) le = ap (λ (l : List Want). w ∷ l) (take_take wants i j (omega arith))

    earlier : (slots : Slots) (wants : List Want) (i j : ℕ) → i < j → LacksRoomAt Makes banks user slots wants i → LacksRoomAt Makes banks user slots wants j → ⊥
    earlier slots wants i j less p q =
        none_lacks slots (take j wants) q.handles p.handles i p.want p.last q.last (take_get wants i j less ∙ p.is)
        (subst (λ (l : List Want). PutsAll Makes banks user slots l p.handles p.last) (sym (take_take wants i j (omega arith))) p.before) q.before p.none

    lacks_once : (slots : Slots) (wants : List Want) (i j : ℕ) → LacksRoomAt Makes banks user slots wants i → LacksRoomAt Makes banks user slots wants j → i ≡ j
    lacks_once slots wants i j p q = elim (cases_lt i j) [
      | inl less ↦ absurd (earlier slots wants i j less p q)
      | inr le ↦ elim (cases_lt j i) [
        | inl more ↦ absurd (earlier slots wants j i more q p)
        | inr ge ↦ omega arith
      ]
    ]

    lacks_puts : (slots : Slots) (wants : List Want) (i : ℕ) (hs : List Handle) (x : Slots) → LacksRoomAt Makes banks user slots wants i → PutsAll Makes banks user slots wants hs x → ⊥
    lacks_puts slots wants i hs x p q = none_lacks slots wants hs p.handles i p.want p.last x p.is p.before q p.none

    -- there is one outcome of placing blocks for all wants
    pub put_once : (slots : Slots) (wants : List Want) (a b : Put) → IsPut Makes banks user slots wants a → IsPut Makes banks user slots wants b → a ≡ b
    put_once slots wants NoSlots NoSlots p q = refl
    put_once slots wants NoSlots (Lacks j) p q = absurd (omega (arith, p, q.0))
    put_once slots wants NoSlots (PutIn ks y) p q = absurd (omega (arith, p, q.0))
    put_once slots wants (Lacks i) NoSlots p q = absurd (omega (arith, q, p.0))
    put_once slots wants (Lacks i) (Lacks j) p q = ap (λ (n : ℕ). Lacks n) (lacks_once slots wants i j p.1 q.1)
    put_once slots wants (Lacks i) (PutIn ks y) p q = absurd (lacks_puts slots wants i ks y p.1 q.1)
    put_once slots wants (PutIn hs x) NoSlots p q = absurd (omega (arith, q, p.0))
    put_once slots wants (PutIn hs x) (Lacks j) p q = absurd (lacks_puts slots wants j hs x q.1 p.1)
    put_once slots wants (PutIn hs x) (PutIn ks y) p q = let same = puts_all_once slots wants hs ks x y p.1 q.1 in cc (same.0, same.1)
