-- The bytes that patches give, by their offsets: at each offset the last is read.
use Rattle.std.proofs.Common.{◌≡◌, ℕ, pos, zero, suc, ◌+◌, ◌-◌, ◌<◌, ◌≤◌, Bool, true, false, eqb, ltb, leb, List, [], ◌∷◌, ◌++◌, length, map, drop, get_or, Option, Some, None, refl, sym, ap, subst, ◌∙◌, arith, add-zero, append_assoc, inl, inr}
use Rattle.std.specs.Prelude.{◌&&◌, ◌⊎◌, if◌then◌else◌, slice_get, slice_set}
use Rattle.std.specs.Option.{option_or}
use Rattle.std.specs.List.{filter, AllByRecursion}
use Rattle.std.specs.List.Sorted.{IsStableByKey, IsPermutation, IsNonDecreasingBy, ties}
use Rattle.std.specs.Ordering.{nat_cmp, is_lt}
use Rattle.std.proofs.lemmas.Bool.{cases_Bool, cases_order, cases_lt, and_parts, both_ways, eqb-true, eq-eqb, ne_eqb, leb-true, ltb-true, le-leb, lt-leb, lt-ltb, le-ltb}
use Rattle.std.proofs.Math.Seq.{drop-cons}
use Rattle.std.proofs.lemmas.List.{append-nil}
use Rattle.std.proofs.lemmas.List.Elements.{All-from_recursion, recursion_from_All}
use Rattle.std.proofs.lemmas.List.Sorted.{All-permutation, IsPermutation-sym}
use Rattle.load_meaning.specs.Cells.{Cell, Part, Patch, parts_from, byte_of}
use Rattle.load_meaning.specs.laws.LayingLaws.{last_over}
use Rattle.load_content.specs.declared.spots.PatchSpot.{PatchSpot}
use Rattle.load_content.specs.Content.{spread_from, cells_of_patch, spread_all, last_at, offset_of, end_of, part_of, spot_patch, spread_spot, shown_spots, AreApart, AreRising, IsSingle, with_cells}
use Rattle.load_content.proofs.Splits.{get_there, in_order}

-- ---- spreading

-- one byte of a patch, and then the others
pub spread_next : (p : Patch) (at index n m : ℕ) → n ≡ suc m → spread_from p at index n ≡ (at, Part p.file p.segment p.offset p.shift index) ∷ spread_from p (at + 1) (index + 1) m
spread_next p at index n m e = ap (spread_from p at index) e

pub shown-append : (xs ys : List PatchSpot) → shown_spots (xs ++ ys) ≡ shown_spots xs ++ shown_spots ys
shown-append [] ys = refl
shown-append (s ∷ xs) ys = ap (λ l. spread_spot s ++ l) (shown-append xs ys) ∙ sym (append_assoc (spread_spot s) (shown_spots xs) (shown_spots ys))

-- one spot more
pub shown-push : (spots : List PatchSpot) (s : PatchSpot) → shown_spots (spots ++ s ∷ []) ≡ shown_spots spots ++ spread_spot s
shown-push spots s = shown-append spots (s ∷ []) ∙ ap (λ l. shown_spots spots ++ l) (append-nil (spread_spot s))

-- a spot of one byte, with its offset
abbrev pub shown_spot : PatchSpot → ℕ × Cell
shown_spot s = (s.at, part_of s)

one_byte : (s : PatchSpot) → IsSingle s → s.end - s.first ≡ suc 0
one_byte s is = omega (arith, is)

pub shown-single : (s : PatchSpot) → IsSingle s → spread_spot s ≡ shown_spot s ∷ []
shown-single s is = ap (spread_from (spot_patch s) s.at s.first) (one_byte s is)

pub singles-push : (spots : List PatchSpot) (s : PatchSpot) → AllByRecursion IsSingle spots → IsSingle s → AllByRecursion IsSingle (spots ++ s ∷ [])
singles-push [] s all is = (is, tt)
singles-push (t ∷ spots) s all is = (all.0, singles-push spots s all.1 is)

shown-singles : (spots : List PatchSpot) → AllByRecursion IsSingle spots → shown_spots spots ≡ map shown_spot spots
shown-singles [] all = refl
shown-singles (s ∷ spots) all = ap (λ l. l ++ shown_spots spots) (shown-single s all.0) ∙ ap (λ l. shown_spot s ∷ l) (shown-singles spots all.1)

-- ---- the last at an offset

pub or_assoc : (a b c : Option Cell) → option_or (option_or a b) c ≡ option_or a (option_or b c)
or_assoc None b c = refl
or_assoc (Some x) b c = refl

or_none : (a : Option Cell) → option_or a None ≡ a
or_none None = refl
or_none (Some x) = refl

abbrev here_at : ℕ × Cell → ℕ → Option Cell
here_at found k = if eqb found.0 k then Some found.1 else None

pub last_at-append : (xs ys : List (ℕ × Cell)) (k : ℕ) → last_at (xs ++ ys) k ≡ option_or (last_at ys k) (last_at xs k)
last_at-append [] ys k = sym (or_none (last_at ys k))
last_at-append (x ∷ xs) ys k =
    ap (λ o. option_or o (here_at x k)) (last_at-append xs ys k)
    ∙ or_assoc (last_at ys k) (last_at xs k) (here_at x k)

spot_same : (s t : PatchSpot) → Some s ≡ Some t → s ≡ t
spot_same s t e = cc

-- ---- sorting

-- spots elsewhere may be left out
last_at-filter : (test : PatchSpot → Bool) (spots : List PatchSpot) (k : ℕ) → ((s : PatchSpot) → s.at ≡ k → test s ≡ true) → last_at (map shown_spot (filter test spots)) k ≡ last_at (map shown_spot spots) k
last_at-filter test [] k passes = refl
last_at-filter test (s ∷ spots) k passes = elim (cases_Bool (test s)) [
  | inl at_it ↦ rw at_it (ap (λ o. option_or o (here_at (shown_spot s) k)) (last_at-filter test spots k passes))
  | inr left ↦ rw left (last_at-filter test spots k passes ∙ sym (elsewhere (cases_Bool (eqb s.at k)) left))
]
  where
    elsewhere : (eqb s.at k ≡ true) ⊎ (eqb s.at k ≡ false) → test s ≡ false → last_at (map shown_spot (s ∷ spots)) k ≡ last_at (map shown_spot spots) k
    elsewhere is_at left = elim is_at [
      | inl at_it ↦ absurd (both_ways (test s) left (passes s (eqb-true s.at k at_it)))
      | inr no_one ↦ rw no_one (or_none (last_at (map shown_spot spots) k))
    ]

not_below : (k n : ℕ) → n ≡ k → is_lt (nat_cmp k n) ≡ false
not_below k n e = rw (le-ltb k n (omega (arith, e)), eq-eqb k n (sym e)) refl

-- a stable sort by the offset keeps the last at each offset
pub last_at-stable : (xs ys : List PatchSpot) (k : ℕ) → IsStableByKey offset_of nat_cmp xs ys → last_at (map shown_spot ys) k ≡ last_at (map shown_spot xs) k
last_at-stable xs ys k stable =
    sym (last_at-filter (tied k) ys k (λ s e. tied_at k s e))
    ∙ ap (λ l. last_at (map shown_spot l) k) (stable (spot_of k))
    ∙ last_at-filter (tied k) xs k (λ s e. tied_at k s e)
  where
    spot_of : ℕ → PatchSpot
    spot_of n = record { at = n; offset = 0; segment = 0; shift = pos 0; first = 0; end = 0 }

    tied : ℕ → PatchSpot → Bool
    tied n = ties (λ x y. is_lt (nat_cmp (offset_of x) (offset_of y))) (spot_of n)

    tied_at : (n : ℕ) (s : PatchSpot) → s.at ≡ n → tied n s ≡ true
    tied_at n s e = rw (not_below n s.at e, not_below s.at n (sym e)) refl

-- ---- patches over cells

-- the last byte of one patch at an offset
last_at-spread : (p : Patch) (n at index k : ℕ) → last_at (spread_from p at index n) k ≡ (if leb at k && ltb k (at + n) then slice_get (parts_from p index n) (k - at) else None)
last_at-spread p zero at index k = elim (cases_Bool (leb at k && ltb k (at + 0))) [
  | inl inside ↦ let both = and_parts (leb at k) (ltb k (at + 0)) inside in absurd (omega (arith, leb-true at k both.0, ltb-true k (at + 0) both.1))
  | inr outside ↦ rw outside refl
]
last_at-spread p (suc n) at index k =
    ap (λ o. option_or o (here_at (at, Part p.file p.segment p.offset p.shift index) k)) (last_at-spread p n (at + 1) (index + 1) k) ∙ step (cases_order at k)
  where
    step : (at ≡ k) ⊎ ((at < k) ⊎ (k < at))
        → option_or (if leb (at + 1) k && ltb k (at + 1 + n) then slice_get (parts_from p (index + 1) n) (k - (at + 1)) else None) (here_at (at, Part p.file p.segment p.offset p.shift index) k)
        ≡ (if leb at k && ltb k (at + suc n) then slice_get (parts_from p index (suc n)) (k - at) else None)
    step order = elim order [
      | inl same ↦
          let zero_is : k - at ≡ 0 = omega (arith, same) in
          rw (le-leb at k (omega (arith, same)), lt-ltb k (at + suc n) (omega (arith, same)), lt-leb (at + 1) k (omega (arith, same)), eq-eqb at k same, zero_is) refl
      | inr apart ↦ elim apart [
        | inl after ↦
            let place : at + 1 + n ≡ at + suc n = omega arith in
            let less : k - at ≡ suc (k - (at + 1)) = omega (arith, after) in
            rw (le-leb at k (omega (arith, after)), le-leb (at + 1) k (omega (arith, after)), ne_eqb at k (λ e. absurd (omega (arith, e, after))), place, less) (or_none _)
        | inr before ↦ rw (lt-leb at k before, lt-leb (at + 1) k (omega (arith, before)), ne_eqb at k (λ e. absurd (omega (arith, e, before)))) refl
      ]
    ]

get-parts : (p : Patch) (index n k : ℕ) → k < n → slice_get (parts_from p index n) k ≡ Some (Part p.file p.segment p.offset p.shift (index + k))
get-parts p index zero k lt = absurd (omega arith)
get-parts p index (suc n) zero lt = ap (λ (i : ℕ). Some (Part p.file p.segment p.offset p.shift i)) (sym (add-zero index))
get-parts p index (suc n) (suc k) lt =
    let place : index + 1 + k ≡ index + suc k = omega arith in
    get-parts p (index + 1) n k (omega arith) ∙ ap (λ (i : ℕ). Some (Part p.file p.segment p.offset p.shift i)) place

-- what one patch gives at an offset, or else what was there
over_one : (p : Patch) (k : ℕ) (o : Option Cell)
    → (if leb p.location k && ltb k (p.location + p.count) then slice_get (parts_from p 0 p.count) (k - p.location) else o) ≡ option_or (last_at (cells_of_patch p) k) o
over_one p k o = elim (cases_Bool (leb p.location k && ltb k (p.location + p.count))) [
  | inl inside ↦
      let both = and_parts (leb p.location k) (ltb k (p.location + p.count)) inside in
      let there = get-parts p 0 p.count (k - p.location) (omega (arith, leb-true p.location k both.0, ltb-true k (p.location + p.count) both.1)) in
      let here : last_at (cells_of_patch p) k ≡ Some (Part p.file p.segment p.offset p.shift (0 + (k - p.location))) = last_at-spread p p.count p.location 0 k ∙ rw inside there in
      rw (inside, there, here) refl
  | inr outside ↦
      let here : last_at (cells_of_patch p) k ≡ None = last_at-spread p p.count p.location 0 k ∙ rw outside refl in
      rw (outside, here) refl
]

-- what is read at an offset of patches over cells
pub last_over-spread : (patches : List Patch) (k : ℕ) (o : Option Cell) → last_over (λ p. parts_from p 0 p.count) patches k o ≡ option_or (last_at (spread_all patches) k) o
last_over-spread [] k o = refl
last_over-spread (p ∷ patches) k o =
    let first : Option Cell = if leb p.location k && ltb k (p.location + p.count) then slice_get (parts_from p 0 p.count) (k - p.location) else o in
    last_over-spread patches k first
    ∙ ap (option_or (last_at (spread_all patches) k)) (over_one p k o)
    ∙ sym (or_assoc (last_at (spread_all patches) k) (last_at (cells_of_patch p) k) o)
    ∙ ap (λ q. option_or q o) (sym (last_at-append (cells_of_patch p) (spread_all patches) k))

-- ---- spots over an offset

-- a spot has a byte at an offset
abbrev pub Covers : ℕ → PatchSpot → Type 0
Covers k s = (s.at ≤ k) × (k < end_of s)

-- and the cell that it gives there
abbrev pub cell_in : PatchSpot → ℕ → Cell
cell_in s k = Part 1 s.segment s.offset s.shift (s.first + (k - s.at))

covers_or_not : (k : ℕ) (s : PatchSpot) → Covers k s ⊎ (Covers k s → ⊥)
covers_or_not k s = elim (cases_Bool (leb s.at k && ltb k (end_of s))) [
  | inl yes_is ↦ let both = and_parts (leb s.at k) (ltb k (end_of s)) yes_is in inl (leb-true s.at k both.0, ltb-true k (end_of s) both.1)
  | inr no_is ↦ inr (λ is. both_ways (leb s.at k && ltb k (end_of s)) no_is (rw (le-leb s.at k is.0, lt-ltb k (end_of s) is.1) refl))
]

pub spot_here : (s : PatchSpot) (k : ℕ) → Covers k s → last_at (spread_spot s) k ≡ Some (cell_in s k)
spot_here s k is =
    last_at-spread (spot_patch s) (s.end - s.first) s.at s.first k
    ∙ rw (le-leb s.at k is.0, lt-ltb k (end_of s) is.1) (get-parts (spot_patch s) s.first (s.end - s.first) (k - s.at) (omega (arith, is.0, is.1)))

pub spot_else : (s : PatchSpot) (k : ℕ) → (Covers k s → ⊥) → last_at (spread_spot s) k ≡ None
spot_else s k not = last_at-spread (spot_patch s) (s.end - s.first) s.at s.first k ∙ elsewhere (cases_Bool (leb s.at k && ltb k (end_of s)))
  where
    elsewhere : (leb s.at k && ltb k (end_of s) ≡ true) ⊎ (leb s.at k && ltb k (end_of s) ≡ false)
        → (if leb s.at k && ltb k (end_of s) then slice_get (parts_from (spot_patch s) s.first (s.end - s.first)) (k - s.at) else None) ≡ None
    elsewhere either = elim either [
      | inl yes_is ↦ let both = and_parts (leb s.at k) (ltb k (end_of s)) yes_is in absurd (not (leb-true s.at k both.0, ltb-true k (end_of s) both.1))
      | inr no_is ↦ rw no_is refl
    ]

-- where no spot is over an offset
pub none_over : (spots : List PatchSpot) (k : ℕ) → AllByRecursion (λ s. Covers k s → ⊥) spots → last_at (shown_spots spots) k ≡ None
none_over [] k all = refl
none_over (s ∷ spots) k all =
    last_at-append (spread_spot s) (shown_spots spots) k
    ∙ ap (λ o. option_or o (last_at (spread_spot s) k)) (none_over spots k all.1)
    ∙ spot_else s k all.0

-- what holds at each place holds of all
pub each_place : (P : PatchSpot → Type 0) (spots : List PatchSpot) → ((i : ℕ) (s : PatchSpot) → slice_get spots i ≡ Some s → P s) → AllByRecursion P spots
each_place P [] at = tt
each_place P (s ∷ spots) at = (at 0 s refl, each_place P spots (λ i t is. at (suc i) t is))

-- the last one of those over an offset
pub last_over_it : (spots : List PatchSpot) (k i : ℕ) (s : PatchSpot) → slice_get spots i ≡ Some s → Covers k s
    → ((j : ℕ) (t : PatchSpot) → i < j → slice_get spots j ≡ Some t → Covers k t → ⊥) → last_at (shown_spots spots) k ≡ Some (cell_in s k)
last_over_it [] k i s is covers last = absurd cc
last_over_it (s0 ∷ spots) k zero s is covers last =
    let rest = none_over spots k (each_place (λ t. Covers k t → ⊥) spots (λ j t there. last (suc j) t (omega arith) there)) in
    let same : s ≡ s0 = spot_same s s0 (sym is) in
    last_at-append (spread_spot s0) (shown_spots spots) k
    ∙ ap (λ o. option_or o (last_at (spread_spot s0) k)) rest
    ∙ ap (λ (t : PatchSpot). last_at (spread_spot t) k) (sym same)
    ∙ spot_here s k covers
last_over_it (s0 ∷ spots) k (suc i) s is covers last =
    last_at-append (spread_spot s0) (shown_spots spots) k
    ∙ ap (λ o. option_or o (last_at (spread_spot s0) k)) (last_over_it spots k i s is covers (λ j t lt there. last (suc j) t (omega arith) there))

-- ---- spots in another order

-- where all spots over an offset are one, it gives the cell there
one_value : (spots : List PatchSpot) (k : ℕ) (s : PatchSpot) → AllByRecursion (λ t. Covers k t → t ≡ s) spots
    → AllByRecursion (λ t. Covers k t → ⊥) spots ⊎ (last_at (shown_spots spots) k ≡ Some (cell_in s k))
one_value [] k s all = inl tt
one_value (t ∷ spots) k s all = elim (one_value spots k s all.1) [
  | inr some ↦ inr (last_at-append (spread_spot t) (shown_spots spots) k ∙ ap (λ o. option_or o (last_at (spread_spot t) k)) some)
  | inl none ↦ elim (covers_or_not k t) [
    | inl yes_is ↦ inr (
        last_at-append (spread_spot t) (shown_spots spots) k
        ∙ ap (λ o. option_or o (last_at (spread_spot t) k)) (none_over spots k none)
        ∙ spot_here t k yes_is
        ∙ ap (λ (u : PatchSpot). Some (cell_in u k)) (all.0 yes_is))
    | inr no_is ↦ inl (no_is, none)
  ]
]

-- of spots that lie apart one at most is over an offset
one_over : (spots : List PatchSpot) (k : ℕ) → AreApart spots
    → AllByRecursion (λ t. Covers k t → ⊥) spots ⊎ ((s : PatchSpot) × (AllByRecursion (λ t. Covers k t → t ≡ s) spots × (AllByRecursion (λ t. Covers k t → ⊥) spots → ⊥)))
one_over [] k apart = inl tt
one_over (t ∷ spots) k apart = elim (covers_or_not k t) [
  | inl yes_is ↦ inr (
    t,
    (((λ _. refl), each_place (λ u. Covers k u → u ≡ t) spots (λ j u is over. let following = apart 0 (suc j) t u (omega arith) refl is in absurd (omega (arith, following, yes_is.1, over.0)))), λ none. none.0 yes_is),
  )
  | inr no_is ↦ elim (one_over spots k (λ i j s u lt is there. apart (suc i) (suc j) s u (omega arith) is there)) [
    | inl none ↦ inl (no_is, none)
    | inr one ↦ inr (one.0, (((λ is. absurd (no_is is)), one.1.0), λ none. one.1.1 none.1))
  ]
]

moved : (P : PatchSpot → Type 0) (xs ys : List PatchSpot) → IsPermutation xs ys → AllByRecursion P xs → AllByRecursion P ys
moved P xs ys permutation all = recursion_from_All P ys (All-permutation P xs ys permutation (All-from_recursion P xs all))

-- spots that lie apart give the same cells in any order
pub last_at-apart : (xs ys : List PatchSpot) (k : ℕ) → IsPermutation xs ys → AreApart ys → last_at (shown_spots ys) k ≡ last_at (shown_spots xs) k
last_at-apart xs ys k permutation apart = elim (one_over ys k apart) [
  | inl none ↦ none_over ys k none ∙ sym (none_over xs k (moved (λ t. Covers k t → ⊥) ys xs back none))
  | inr one ↦ let (s, found) = one in elim (one_value ys k s found.0) [
    | inl none ↦ absurd (found.1 none)
    | inr some ↦ elim (one_value xs k s (moved (λ t. Covers k t → t ≡ s) ys xs back found.0)) [
      | inl none ↦ absurd (found.1 (moved (λ t. Covers k t → ⊥) xs ys permutation none))
      | inr other ↦ some ∙ sym other
    ]
  ]
]
  where
    back : IsPermutation ys xs
    back = IsPermutation-sym xs ys permutation

-- and so do spots of one byte, where those at one offset keep their order
pub last_at-singles : (xs ys : List PatchSpot) (k : ℕ) → AllByRecursion IsSingle xs → IsPermutation xs ys → IsStableByKey offset_of nat_cmp xs ys → last_at (shown_spots ys) k ≡ last_at (shown_spots xs) k
last_at-singles xs ys k single permutation stable =
    ap (λ l. last_at l k) (shown-singles ys (moved IsSingle xs ys permutation single))
    ∙ last_at-stable xs ys k stable
    ∙ ap (λ l. last_at l k) (sym (shown-singles xs single))

-- ---- the order

pub apart_rise : (spots : List PatchSpot) → AreApart spots → AreRising spots
apart_rise spots apart = record {
  starts = λ i j d le lt. elim (cases_lt i j) [
    | inl before ↦
        let is = get_there spots i d (omega (arith, before, lt)) in
        let there = get_there spots j d lt in
        let ends = apart i j (get_or spots i d) (get_or spots j d) before is there in
        omega (arith, ends)
    | inr same ↦ let eq : i ≡ j = omega (arith, le, same) in ap-le i j d eq
  ];
  ends = λ i j s t lt is there. let ends = apart i j s t lt is there in omega (arith, ends);
}
  where
    ap-le : (i j : ℕ) (d : PatchSpot) → i ≡ j → offset_of (get_or spots i d) ≤ offset_of (get_or spots j d)
    ap-le i j d eq = let same : offset_of (get_or spots i d) ≡ offset_of (get_or spots j d) = ap (λ (n : ℕ). offset_of (get_or spots n d)) eq in omega (arith, same)

get_all : (P : PatchSpot → Type 0) (spots : List PatchSpot) (i : ℕ) (s : PatchSpot) → AllByRecursion P spots → slice_get spots i ≡ Some s → P s
get_all P [] i s all is = absurd cc
get_all P (t ∷ spots) zero s all is = subst P (spot_same t s is) all.0
get_all P (t ∷ spots) (suc i) s all is = get_all P spots i s all.1 is

pub singles_rise : (xs ys : List PatchSpot) → AllByRecursion IsSingle xs → IsPermutation xs ys → IsNonDecreasingBy offset_of ys → AreRising ys
singles_rise xs ys single permutation rise =
    let all = moved IsSingle xs ys permutation single in
    record {
      starts = rise;
      ends = λ i j s t lt is there.
          let starts = in_order offset_of ys i j s t rise (omega (arith, lt)) is there in
          let one = get_all IsSingle ys i s all is in
          let other = get_all IsSingle ys j t all there in
          omega (arith, starts, one, other);
    }

-- ---- cells written

pub length-slice_set : (bytes : List ℕ) (i x : ℕ) → length (slice_set bytes i x) ≡ length bytes
length-slice_set [] i x = refl
length-slice_set (b ∷ bytes) zero x = refl
length-slice_set (b ∷ bytes) (suc i) x = ap suc (length-slice_set bytes i x)

pub length-with_cells : (places : ℕ → ℕ) (founds : List (ℕ × Cell)) (bytes : List ℕ) → length (with_cells places founds bytes) ≡ length bytes
length-with_cells places [] bytes = refl
length-with_cells places (found ∷ founds) bytes =
    length-with_cells places founds (slice_set bytes found.0 (byte_of places found.1)) ∙ length-slice_set bytes found.0 (byte_of places found.1)

pub with_cells-append : (places : ℕ → ℕ) (xs ys : List (ℕ × Cell)) (bytes : List ℕ) → with_cells places (xs ++ ys) bytes ≡ with_cells places ys (with_cells places xs bytes)
with_cells-append places [] ys bytes = refl
with_cells-append places (x ∷ xs) ys bytes = with_cells-append places xs ys (slice_set bytes x.0 (byte_of places x.1))

-- the next spot, and then the others
pub shown-next : (spots : List PatchSpot) (i : ℕ) (d : PatchSpot) → i < length spots → shown_spots (drop i spots) ≡ spread_spot (get_or spots i d) ++ shown_spots (drop (i + 1) spots)
shown-next spots i d lt =
    let step : suc i ≡ i + 1 = omega arith in
    ap shown_spots (drop-cons spots i d lt) ∙ ap (λ (n : ℕ). spread_spot (get_or spots i d) ++ shown_spots (drop n spots)) step
