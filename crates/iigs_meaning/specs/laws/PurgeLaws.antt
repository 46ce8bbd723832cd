-- Laws of purges: with none nothing is emptied, and with more than may be purged no more.
use Rattle.std.proofs.Common.{◌≡◌, ℕ, zero, suc, Bool, true, false, cond, ◌==◌, ◌&&◌, ◌||◌, nat_lt, ◌+◌, ◌<◌, ◌≤◌, List, [], ◌∷◌, map, All, length, get_or, count_by, Option, Some, None, refl, ap, ◌∙◌, arith}
use Rattle.std.specs.Prelude.{unwrap_or}
use Rattle.std.specs.Option.{option_map_or}
use Rattle.std.proofs.lemmas.Bool.Decides.{nat_tests}
use Rattle.std.proofs.lemmas.List.Elements.{All-head, All-tail}
use Rattle.std.proofs.lemmas.List.Sums.{sum_by-cons}
use Rattle.iigs_meaning.specs.declared.slots.Slot.{Slot}
use Rattle.iigs_meaning.specs.declared.slots.SlotContent.TheVariants.{Used}
use Rattle.iigs_meaning.specs.declared.wants.Block.{Block}
use Rattle.iigs_meaning.specs.Fits.{Slots, block_in}
use Rattle.iigs_meaning.specs.Placement.{can_purge, goes_before, rank, is_gone, emptied_where, slots_after_purges, count_purgeable}

-- ---- counts

module _ {X Y : Type 0} (p : X → Bool) (q : Y → Bool) where
  one_less : (x : X) (y : Y) → (p x ≡ true → q y ≡ true) → cond {A = ℕ} (p x) 1 0 ≤ cond {A = ℕ} (q y) 1 0
  one_less x y more = go (p x) refl
    where
      go : (b : Bool) → p x ≡ b → cond {A = ℕ} b 1 0 ≤ cond {A = ℕ} (q y) 1 0
      go true is = rw (more is) (omega arith)
      go false is = omega arith

  head_less : (x : X) (y : Y) → p x ≡ false → q y ≡ true → cond {A = ℕ} (p x) 1 0 + 1 ≤ cond {A = ℕ} (q y) 1 0
  head_less x y fails meets = rw (fails, meets) (omega arith)

  pub count_less : (d : X) (e : Y) (xs : List X) (ys : List Y) → length xs ≡ length ys → ((k : ℕ) → p (get_or xs k d) ≡ true → q (get_or ys k e) ≡ true) → count_by p xs ≤ count_by q ys
  count_less d e [] ys len each = omega arith
  count_less d e (x ∷ xs) [] len each = absurd (omega (arith, len))
  count_less d e (x ∷ xs) (y ∷ ys) len each =
      omega (arith, sum_by-cons (λ x. cond (p x) 1 0) x xs, sum_by-cons (λ y. cond (q y) 1 0) y ys, one_less x y (each 0), count_less d e xs ys (omega (arith, len)) (λ k. each (suc k)))

  -- where whatever passes one test passes the other, and at a place only the other is passed, that one is passed more often
  pub count_more : (d : X) (e : Y) (xs : List X) (ys : List Y) (place : ℕ) → length xs ≡ length ys → place < length xs → ((k : ℕ) → p (get_or xs k d) ≡ true → q (get_or ys k e) ≡ true)
      → p (get_or xs place d) ≡ false → q (get_or ys place e) ≡ true → count_by p xs + 1 ≤ count_by q ys
  count_more d e [] ys place len inside each fails meets = absurd (omega (arith, inside))
  count_more d e (x ∷ xs) [] place len inside each fails meets = absurd (omega (arith, len))
  count_more d e (x ∷ xs) (y ∷ ys) zero len inside each fails meets =
      omega (arith, sum_by-cons (λ x. cond (p x) 1 0) x xs, sum_by-cons (λ y. cond (q y) 1 0) y ys, head_less x y fails meets, count_less d e xs ys (omega (arith, len)) (λ k. each (suc k)))
  count_more d e (x ∷ xs) (y ∷ ys) (suc place) len inside each fails meets =
      omega (
        arith,
        sum_by-cons (λ x. cond (p x) 1 0) x xs,
        sum_by-cons (λ y. cond (q y) 1 0) y ys,
        one_less x y (each 0),
        count_more d e xs ys place (omega (arith, len)) (omega (arith, inside)) (λ k. each (suc k)) fails meets,
      )

-- ---- nothing is emptied

none_gone : (slots : Slots) (block : Block) → is_gone slots 0 block ≡ false
unfolding is_gone
none_gone slots block = go (can_purge block) (rank slots block)
  where
    go : (a : Bool) (n : ℕ) → (a && nat_lt n 0) ≡ false
    go true n = grind (arith, nat_tests)
    go false n = refl

none_emptied : (slots all : Slots) → map (emptied_where (is_gone all 0)) slots ≡ slots
none_emptied [] all = refl
none_emptied (slot ∷ slots) all = ap (λ (s : Slot Block). s ∷ map (emptied_where (is_gone all 0)) slots) (same (block_in slot)) ∙ ap (λ (l : Slots). slot ∷ l) (none_emptied slots all)
  where
    same : (o : Option Block) → option_map_or (λ block. cond (is_gone all 0 block) (record { generation = slot.generation; content = Used (record block { at = None }) }) slot) o slot ≡ slot
    same None = refl
    same (Some block) = rw (none_gone all block) refl

pub emptied_none : (slots : Slots) → slots_after_purges slots 0 ≡ slots
unfolding slots_after_purges
emptied_none slots = none_emptied slots slots

-- ---- no more is emptied than may be

-- fewer purgeable blocks go before one than there are
rank_less : (slots : Slots) (place : ℕ) (d : Slot Block) (block : Block) → place < length slots → block_in (get_or slots place d) ≡ Some block → can_purge block ≡ true → rank slots block < count_purgeable slots
unfolding rank goes_before
rank_less slots place d block inside is can =
    let more = count_more (λ slot. option_map_or (λ one. can_purge one && goes_before one block) (block_in slot) false) (λ slot. option_map_or can_purge (block_in slot) false) d d slots slots place refl inside
    (λ k. passes (block_in (get_or slots k d))) (rw is not_before) (rw is can) in
    omega (arith, more)
  where
    itself : (a b : ℕ) → (nat_lt a a || (a == a && nat_lt b b)) ≡ false
    itself a b =
        let one : nat_lt a a ≡ false = grind (arith, nat_tests) in
        let two : nat_lt b b ≡ false = grind (arith, nat_tests) in
        rw (one, two) (and_false (a == a))
      where
        and_false : (c : Bool) → (c && false) ≡ false
        and_false true = refl
        and_false false = refl

    not_before : (can_purge block && goes_before block block) ≡ false
    not_before = rw (can, itself block.level (unwrap_or block.at 0)) refl

    passes : (o : Option Block) → option_map_or (λ one. can_purge one && goes_before one block) o false ≡ true → option_map_or can_purge o false ≡ true
    passes None e = e
    passes (Some one) e = first (can_purge one) (goes_before one block) e
      where
        first : (a b : Bool) → (a && b) ≡ true → a ≡ true
        first true b e = refl
        first false b e = e

map_alike : (f g : Slot Block → Slot Block) (slots : Slots) → All (λ slot. f slot ≡ g slot) slots → map f slots ≡ map g slots
map_alike f g [] all = refl
map_alike f g (slot ∷ slots) all = ap (λ (s : Slot Block). s ∷ map f slots) (All-head (λ s. f s ≡ g s) slot slots all) ∙ ap (λ (l : Slots). g slot ∷ l) (map_alike f g slots (All-tail (λ s. f s ≡ g s) slot slots all))

pub emptied_past : (slots : Slots) (count : ℕ) → count_purgeable slots ≤ count → slots_after_purges slots count ≡ slots_after_purges slots (count_purgeable slots)
unfolding slots_after_purges is_gone
emptied_past slots count le = map_alike (emptied_where (is_gone slots count)) (emptied_where (is_gone slots (count_purgeable slots))) slots (λ k d inside. alike k d inside (block_in (get_or slots k d)) refl)
  where
    same_test : (k : ℕ) (d : Slot Block) → k < length slots → (block : Block) → block_in (get_or slots k d) ≡ Some block → (b : Bool) → can_purge block ≡ b
        → (b && nat_lt (rank slots block) count) ≡ (b && nat_lt (rank slots block) (count_purgeable slots))
    same_test k d inside block is true can =
        let less = rank_less slots k d block inside is can in
        let one : nat_lt (rank slots block) (count_purgeable slots) ≡ true = grind (arith, nat_tests) in
        let two : nat_lt (rank slots block) count ≡ true = grind (arith, nat_tests) in
        rw (one, two) refl
    same_test k d inside block is false cannot = refl

    alike : (k : ℕ) (d : Slot Block) → k < length slots → (o : Option Block) → block_in (get_or slots k d) ≡ o
        → option_map_or (λ block. cond (can_purge block && nat_lt (rank slots block) count) (record { generation = (get_or slots k d).generation; content = Used (record block { at = None }) }) (get_or slots k d)) o (get_or slots k d)
        ≡ option_map_or (λ block. cond (can_purge block && nat_lt (rank slots block) (count_purgeable slots)) (record { generation = (get_or slots k d).generation; content = Used (record block { at = None }) }) (get_or slots k d)) o (get_or slots k d)
    alike k d inside None is = refl
    alike k d inside (Some block) is = rw (same_test k d inside block is (can_purge block) refl) refl
