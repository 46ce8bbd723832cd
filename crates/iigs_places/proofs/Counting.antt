-- How many blocks are there, and how many lie below an address.
use Rattle.std.proofs.Common.{◌≡◌, inl, inr, ℕ, Bool, true, false, cond, zero, suc, ◌==◌, ◌&&◌, nat_lt, ◌+◌, ◌<◌, ◌≤◌, List, [], ◌∷◌, ◌++◌, take, All, Contains, length, get_or, count_by, Option, Some, None, is_some, add-one, arith, refl, sym, ap, ◌∙◌}
use Rattle.std.specs.Option.{option_map, option_map_or, option_and_then}
use Rattle.std.specs.List.Sorted.{IsNonDecreasingBy}
use Rattle.std.proofs.lemmas.Bool.{cases_lt, cases_eq}
use Rattle.std.proofs.lemmas.Bool.Decides.{nat_tests}
use Rattle.std.proofs.lemmas.List.{take_more, take_all, get_or_default}
use Rattle.std.proofs.lemmas.List.Elements.{Contains-get_or}
use Rattle.std.proofs.lemmas.List.Sums.{sum_by-append}
use Rattle.iigs_meaning.specs.declared.slots.Slot.{Slot}
use Rattle.iigs_meaning.specs.declared.wants.Block.{Block}
use Rattle.iigs_meaning.specs.Slots.{slot_at, new_slot}
use Rattle.iigs_meaning.specs.Fits.{block_in}
use Rattle.iigs_meaning.specs.Blocks.{address_in}
use Rattle.iigs_meaning.specs.Moves.{count_there, lies_below}
use Rattle.iigs_places.specs.declared.marks.BlockMark.{BlockMark}
use Rattle.iigs_places.specs.Extent.{extent, extent_of, extent_of_size}
use Rattle.iigs_places.specs.Marks.{mark, HaveMarks, IsMarked, IsSized, AreOnce, AreMarksApart}
use Rattle.iigs_places.proofs.Turns.{count-same}
use Rattle.iigs_places.proofs.Once.{count-cons, count_none, count_one, once_apart}
use Rattle.iigs_places.proofs.Marked.{past_none}

-- the address at which a block begins is given by its extent
address_block : (o : Option ℕ) (size : ℕ) → o ≡ option_map (λ (e : ℕ × ℕ). e.0) (extent_of_size size o)
address_block None size = refl
address_block (Some at) size = refl

address_of : (o : Option Block) → option_and_then (λ block. block.at) o ≡ option_map (λ (e : ℕ × ℕ). e.0) (option_and_then extent_of o)
address_of None = refl
address_of (Some block) = address_block block.at block.want.size

pub address_extent : (slot : Slot Block) → address_in slot ≡ option_map (λ (e : ℕ × ℕ). e.0) (extent slot)
address_extent slot = address_of (block_in slot)

-- a test is met as often as two that part it
count_split : {X : Type 0} (p q r : X → Bool) → ((x : X) → cond {A = ℕ} (p x) 1 0 ≡ cond (q x) 1 0 + cond (r x) 1 0) → (xs : List X) → count_by p xs ≡ count_by q xs + count_by r xs
count_split p q r parts [] = refl
count_split p q r parts (x ∷ xs) = omega (arith, count-cons p x xs, count-cons q x xs, count-cons r x xs, parts x, count_split p q r parts xs)

parted : (s n : ℕ) (b : Bool) → cond {A = ℕ} (nat_lt s (suc n) && b) 1 0 ≡ cond (nat_lt s n && b) 1 0 + cond (s == n && b) 1 0
parted s n b = elim (cases_lt s n) [
  | inl less ↦
      let one : nat_lt s (suc n) ≡ true = grind (arith, nat_tests) in
      let two : nat_lt s n ≡ true = grind (arith, nat_tests) in
      let three : (s == n) ≡ false = grind (arith, nat_tests) in
      rw (one, two, three) (omega arith)
  | inr ge ↦ elim (cases_eq s n) [
    | inl same ↦
        let one : nat_lt s (suc n) ≡ true = grind (arith, nat_tests) in
        let two : nat_lt s n ≡ false = grind (arith, nat_tests) in
        let three : (s == n) ≡ true = grind (arith, nat_tests) in
        rw (one, two, three) (omega arith)
    | inr ne ↦
        let one : nat_lt s (suc n) ≡ false = grind (arith, nat_tests) in
        let two : nat_lt s n ≡ false = grind (arith, nat_tests) in
        let three : (s == n) ≡ false = grind (arith, nat_tests) in
        rw (one, two, three) refl
  ]
]

module _ (slots : List (Slot Block)) (marks : List BlockMark) (have : HaveMarks slots marks) (Q : ℕ → Bool) where
  abbrev passes : Slot Block → Bool
  passes slot = option_map_or Q (address_in slot) false

  -- the marks of one slot
  here : (n : ℕ) → count_by (λ (m : BlockMark). m.slot == n && Q m.at) marks ≡ cond {A = ℕ} (passes (slot_at slots n)) 1 0
  here n = go (extent (slot_at slots n)) refl
    where
      clash : (e : ℕ × ℕ) → None ≡ Some e → ⊥
      clash e is = cc

      one_place : (e : ℕ × ℕ) → extent (slot_at slots n) ≡ Some e → (m : BlockMark) → Contains marks m → m.slot ≡ n → m.at ≡ e.0
      one_place e is m has same =
          let one = have.are m has in
          let both : Some one.0 ≡ Some e = sym one.1 ∙ ap (λ (k : ℕ). extent (slot_at slots k)) same ∙ is in
          let equal : one.0 ≡ e = cc in
          ap (λ (x : BlockMark). x.at) one.2 ∙ ap (λ (x : ℕ × ℕ). x.0) equal

      counted : (e : ℕ × ℕ) → extent (slot_at slots n) ≡ Some e → (b : Bool) → Q e.0 ≡ b → count_by (λ (m : BlockMark). m.slot == n && Q m.at) marks ≡ cond {A = ℕ} b 1 0
      counted e is true q =
          let alike : count_by (λ (m : BlockMark). m.slot == n && Q m.at) marks ≡ count_by (λ (m : BlockMark). m.slot == n) marks =
          count-same (λ (m : BlockMark). m.slot == n && Q m.at) (λ (m : BlockMark). m.slot == n) marks (λ k d inside. same_test (get_or marks k d) (Contains-get_or marks k d inside)) in
          let has = have.each n e is in
          let test : ((get_or marks has.0 (mark n e)).slot == n) ≡ true = rw has.2 (itself n) in
          omega (arith, alike, have.once n, count_one (λ (m : BlockMark). m.slot == n) marks has.0 (mark n e) has.1 test)
        where
          itself : (k : ℕ) → (k == k) ≡ true
          itself k = grind (arith, nat_tests)

          same_test : (m : BlockMark) → Contains marks m → (m.slot == n && Q m.at) ≡ (m.slot == n)
          same_test m has = elim (cases_eq m.slot n) [
            | inl same ↦
                let one : (m.slot == n) ≡ true = grind (arith, nat_tests) in
                let two : Q m.at ≡ true = ap Q (one_place e is m has same) ∙ q in
                rw (one, two) refl
            | inr ne ↦
                let one : (m.slot == n) ≡ false = grind (arith, nat_tests) in
                rw one refl
          ]
      counted e is false q = count_none (λ (m : BlockMark). m.slot == n && Q m.at) marks (λ k d inside. no_test (get_or marks k d) (Contains-get_or marks k d inside))
        where
          no_test : (m : BlockMark) → Contains marks m → (m.slot == n && Q m.at) ≡ false
          no_test m has = elim (cases_eq m.slot n) [
            | inl same ↦
                let one : (m.slot == n) ≡ true = grind (arith, nat_tests) in
                let two : Q m.at ≡ false = ap Q (one_place e is m has same) ∙ q in
                rw (one, two) refl
            | inr ne ↦
                let one : (m.slot == n) ≡ false = grind (arith, nat_tests) in
                rw one refl
          ]

      go : (o : Option (ℕ × ℕ)) → extent (slot_at slots n) ≡ o → count_by (λ (m : BlockMark). m.slot == n && Q m.at) marks ≡ cond {A = ℕ} (passes (slot_at slots n)) 1 0
      go None is =
          let none : address_in (slot_at slots n) ≡ None = address_extent (slot_at slots n) ∙ ap (option_map (λ (e : ℕ × ℕ). e.0)) is in
          rw none (count_none (λ (m : BlockMark). m.slot == n && Q m.at) marks (λ k d inside. no_slot (get_or marks k d) (Contains-get_or marks k d inside)))
        where
          no_slot : (m : BlockMark) → Contains marks m → (m.slot == n && Q m.at) ≡ false
          no_slot m has = elim (cases_eq m.slot n) [
            | inl same ↦ let one = have.are m has in absurd (clash one.0 (sym is ∙ ap (λ (k : ℕ). extent (slot_at slots k)) (sym same) ∙ one.1))
            | inr ne ↦ let one : (m.slot == n) ≡ false = grind (arith, nat_tests) in rw one refl
          ]
      go (Some e) is =
          let some : address_in (slot_at slots n) ≡ Some e.0 = address_extent (slot_at slots n) ∙ ap (option_map (λ (e : ℕ × ℕ). e.0)) is in
          rw some (counted e is (Q e.0) refl)

  -- the marks of the first slots
  upto : (n : ℕ) → n ≤ length slots → count_by (λ (m : BlockMark). nat_lt m.slot n && Q m.at) marks ≡ count_by passes (take n slots)
  upto zero le = count_none (λ (m : BlockMark). nat_lt m.slot 0 && Q m.at) marks (λ k d inside. never (get_or marks k d).slot (Q (get_or marks k d).at))
    where
      never : (s : ℕ) (b : Bool) → (nat_lt s 0 && b) ≡ false
      never s b = let none : nat_lt s 0 ≡ false = grind (arith, nat_tests) in rw none refl
  upto (suc n) le =
      let more : take (suc n) slots ≡ take n slots ++ slot_at slots n ∷ [] = rw add-one at (take_more slots n new_slot (omega (arith, le))) in
      let front : count_by passes (take (suc n) slots) ≡ count_by passes (take n slots) + count_by passes (slot_at slots n ∷ []) =
      ap (count_by passes) more ∙ sum_by-append (λ s. cond (passes s) 1 0) (take n slots) (slot_at slots n ∷ []) in
      omega (
        arith,
        count_split (λ (m : BlockMark). nat_lt m.slot (suc n) && Q m.at) (λ (m : BlockMark). nat_lt m.slot n && Q m.at) (λ (m : BlockMark). m.slot == n && Q m.at) (λ m. parted m.slot n (Q m.at)) marks,
        upto n (omega (arith, le)),
        here n,
        front,
        count-cons passes (slot_at slots n) [],
      )

  -- as many marks pass a test of their addresses as blocks
  pub count_marks : count_by (λ (m : BlockMark). Q m.at) marks ≡ count_by passes slots
  count_marks = count-same (λ (m : BlockMark). Q m.at) (λ (m : BlockMark). nat_lt m.slot (length slots) && Q m.at) marks
      (λ k d inside. inner (get_or marks k d) (Contains-get_or marks k d inside))
      ∙ upto (length slots) (omega arith) ∙ ap (count_by passes) (take_all (length slots) slots (omega arith))
    where
      inner : (m : BlockMark) → Contains marks m → Q m.at ≡ (nat_lt m.slot (length slots) && Q m.at)
      inner m has =
          let one = have.are m has in
          let less = past_none slots m.slot one.0 one.1 in
          let test : nat_lt m.slot (length slots) ≡ true = grind (arith, nat_tests) in
          rw test refl

-- ---- all of them

count_all : {X : Type 0} (xs : List X) → count_by (λ (x : X). true) xs ≡ length xs
count_all [] = refl
count_all {X} (x ∷ xs) = omega (arith, count-cons (λ (x : X). true) x xs, count_all xs)

pub count_is : (slots : List (Slot Block)) (marks : List BlockMark) → HaveMarks slots marks → length marks ≡ count_there slots
count_is slots marks have = sym (count_all marks) ∙ count_marks slots marks have (λ at. true)
    ∙ count-same (λ slot. option_map_or (λ at. true) (address_in slot) false) (λ slot. is_some (address_in slot)) slots (λ k d inside. reported (address_in (get_or slots k d)))
  where
    reported : (o : Option ℕ) → option_map_or (λ at. true) o false ≡ is_some o
    reported None = refl
    reported (Some at) = refl

-- ---- those below an address

pub marks_apart : (slots : List (Slot Block)) (marks : List BlockMark) → IsMarked slots marks → HaveMarks slots marks → AreMarksApart marks
marks_apart slots marks made have m o has has' ne = elim (cases_lt o.at m.at) [
  | inl below ↦ inl below
  | inr above ↦ elim (cases_lt o.at m.end) [
    | inr following ↦ inr following
    | inl within ↦
        let one = have.are m has in
        absurd (made.apart m.slot one.0 o one.1 has' (λ eq. ne (sym eq)) (omega (arith, above, ap (λ (x : BlockMark). x.at) one.2), omega (arith, within, ap (λ (x : BlockMark). x.end) one.2)))
  ]
]

rising : (marks : List BlockMark) → IsNonDecreasingBy (λ m. m.at) marks → AreOnce marks → All IsSized marks → AreMarksApart marks
    → (i j : ℕ) (d : BlockMark) → i < j → j < length marks → (get_or marks i d).at < (get_or marks j d).at
rising marks order once sized' apart i j d less inside =
    let one = Contains-get_or marks i d (omega (arith, less, inside)) in
    let two = Contains-get_or marks j d inside in
    elim (apart (get_or marks i d) (get_or marks j d) one two (once_apart marks once i j d (omega (arith, less)) (omega (arith, less, inside)) inside)) [
      | inl lower ↦ absurd (omega (arith, lower, order i j d (omega (arith, less)) inside))
      | inr following ↦ omega (arith, following, (sized' i d (omega (arith, less, inside))).0)
    ]

count_place : (marks : List BlockMark) (k : ℕ) (d : BlockMark) → k < length marks → ((i j : ℕ) → i < j → j < length marks → (get_or marks i d).at < (get_or marks j d).at)
    → count_by (λ (m : BlockMark). nat_lt m.at (get_or marks k d).at) marks ≡ k
count_place [] k d inside rises = absurd (omega (arith, inside))
count_place (m ∷ ms) zero d inside rises =
    let self : nat_lt m.at m.at ≡ false = grind (arith, nat_tests) in
    let first : cond {A = ℕ} (nat_lt m.at m.at) 1 0 ≡ 0 = rw self refl in
    omega (arith, count-cons (λ (x : BlockMark). nat_lt x.at m.at) m ms, first, count_none (λ (x : BlockMark). nat_lt x.at m.at) ms (λ j e inside'. above j e inside'))
  where
    above : (j : ℕ) (e : BlockMark) → j < length ms → nat_lt (get_or ms j e).at m.at ≡ false
    above j e inside' =
        let up : m.at < (get_or ms j d).at = rises 0 (suc j) (omega arith) (omega (arith, inside')) in
        let same : get_or ms j e ≡ get_or ms j d = get_or_default ms j e d inside' in
        rw same (grind (arith, nat_tests))
count_place (m ∷ ms) (suc k) d inside rises =
    let up : m.at < (get_or ms k d).at = rises 0 (suc k) (omega arith) inside in
    let test : nat_lt m.at (get_or ms k d).at ≡ true = grind (arith, nat_tests) in
    let first : cond {A = ℕ} (nat_lt m.at (get_or ms k d).at) 1 0 ≡ 1 = rw test refl in
    omega (
      arith,
      count-cons (λ (x : BlockMark). nat_lt x.at (get_or ms k d).at) m ms,
      first,
      count_place ms k d (omega (arith, inside)) (λ i j less inside'. rises (suc i) (suc j) (omega (arith, less)) (omega (arith, inside'))),
    )

-- `k` blocks lie below the one whose mark is at place `k`
pub below_is : (slots : List (Slot Block)) (marks : List BlockMark) → IsMarked slots marks → HaveMarks slots marks → All IsSized marks → (k : ℕ) (d : BlockMark) → k < length marks
    → count_by (lies_below (get_or marks k d).at) slots ≡ k
below_is slots marks made have sized' k d inside =
    sym (count_marks slots marks have (λ at. nat_lt at (get_or marks k d).at))
    ∙ count_place marks k d inside (λ i j less inside'. rising marks made.order have.once sized' (marks_apart slots marks made have) i j d less inside')
