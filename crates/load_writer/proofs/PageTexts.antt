-- The subrecords as they are written, page by page.
use Rattle.std.proofs.Common.{◌≡◌, ℕ, zero, suc, ◌+◌, ◌-◌, ◌/◌, ◌%◌, ◌<◌, ◌≤◌, true, false, eqb, List, [], ◌∷◌, ◌++◌, length, map, take, drop, replicate, refl, sym, ap, subst, ◌∙◌, append_assoc, arith, inl, inr}
use Rattle.std.specs.List.{flat_map, AllByRecursion}
use Rattle.std.proofs.lemmas.Bool.{cases_Bool, eqb-true, eqb-false, eq-eqb, ne_eqb}
use Rattle.std.proofs.lemmas.List.{length-map, length-take}
use Rattle.std.proofs.lemmas.List.Concat.{flat_map-cons}
use Rattle.std.proofs.lemmas.Grind.{flat_map-append}
use Rattle.omf_format.specs.Super.{Passed, Located, page_text}
use Rattle.load_meaning.specs.WrittenPages.{passing, Group, in_front, by_page, pages_from}
use Rattle.load_writer.specs.WrittenParts.{run}
use Rattle.load_meaning.specs.laws.PageLaws.{Climb, IsGroup}

-- ---- skips

-- above 127 pages a byte $FF goes first
pub passing_more : (n : ℕ) → 127 < n → flat_map page_text (passing n) ≡ 255 ∷ flat_map page_text (passing (n - 127))
passing_more zero lt = absurd (omega arith)
passing_more (suc m) lt =
    let less : suc m - 127 ≡ suc (m - 127) = omega arith in
    let count : m / 127 ≡ suc ((m - 127) / 127) = omega arith in
    let rest : m % 127 ≡ (m - 127) % 127 = omega arith in
    let all : passing (suc m) ≡ Passed 127 ∷ passing (suc (m - 127)) =
    ap (λ (q : ℕ). replicate q (Passed 127) ++ Passed (m % 127 + 1) ∷ []) count
    ∙ ap (λ (r : ℕ). replicate (suc ((m - 127) / 127)) (Passed 127) ++ Passed (r + 1) ∷ []) rest in
    ap (flat_map page_text) all ∙ flat_map-cons page_text (Passed 127) (passing (suc (m - 127))) ∙ ap (λ (k : ℕ). 255 ∷ flat_map page_text (passing k)) (sym less)

pub passing_last : (n : ℕ) → 0 < n → n ≤ 127 → flat_map page_text (passing n) ≡ (128 + n) ∷ []
passing_last zero lt le = absurd (omega arith)
passing_last (suc m) lt le =
    let none : m / 127 ≡ 0 = omega arith in
    let rest : m % 127 ≡ m = omega arith in
    let all : passing (suc m) ≡ Passed (m + 1) ∷ [] =
    ap (λ (q : ℕ). replicate q (Passed 127) ++ Passed (m % 127 + 1) ∷ []) none ∙ ap (λ (r : ℕ). Passed (r + 1) ∷ []) rest in
    ap (flat_map page_text) all ∙ ap (λ (k : ℕ). k ∷ []) (omega arith)

-- ---- the first page

abbrev pub lows : List ℕ → List ℕ
lows locations = map (λ (at : ℕ). at % 256) locations

-- the page of the first location, with the locations at the start that lie in it, and the pages of those after them
abbrev pub split_at : ℕ → List ℕ → List Group
split_at page locations = (page, lows (take (run page locations) locations)) ∷ by_page (drop (run page locations) locations)

abbrev pub Split : ℕ → List ℕ → Type 0
Split at more = by_page (at ∷ more) ≡ split_at (at / 256) (at ∷ more)

pub first_page : (at : ℕ) (more : List ℕ) → Split at more
first_page at [] = let here = eq-eqb (at / 256) (at / 256) refl in rw here refl
first_page at (next ∷ more) =
    let here = eq-eqb (at / 256) (at / 256) refl in
    let tail = first_page next more in
    elim (cases_Bool (eqb (at / 256) (next / 256))) [
      | inl same ↦ joins here tail (eqb-true _ _ same)
      | inr other ↦ parts here tail other
    ]
  where
    joins : eqb (at / 256) (at / 256) ≡ true → Split next more → at / 256 ≡ next / 256 → Split at (next ∷ more)
    joins here tail same =
        let tail' : by_page (next ∷ more) ≡ split_at (at / 256) (next ∷ more) = subst (λ (page : ℕ). by_page (next ∷ more) ≡ split_at page (next ∷ more)) (sym same) tail in
        ap (in_front at) tail' ∙ rw here refl

    parts : eqb (at / 256) (at / 256) ≡ true → Split next more → eqb (at / 256) (next / 256) ≡ false → Split at (next ∷ more)
    parts here tail other =
        let other' : eqb (next / 256) (at / 256) ≡ false = ne_eqb _ _ (λ (e : next / 256 ≡ at / 256). eqb-false _ _ other (sym e)) in
        let front : in_front at (split_at (next / 256) (next ∷ more)) ≡ (at / 256, at % 256 ∷ []) ∷ split_at (next / 256) (next ∷ more) = rw other refl in
        ap (in_front at) tail ∙ front ∙ ap (λ (g : List Group). (at / 256, at % 256 ∷ []) ∷ g) (sym tail) ∙ rw (here, other') refl

-- ---- one page

pub run_within : (page : ℕ) (locations : List ℕ) → run page locations ≤ length locations
run_within page [] = omega arith
run_within page (at ∷ more) = let rest = run_within page more in elim (cases_Bool (eqb (at / 256) page)) [
  | inl same ↦ rw same (omega arith)
  | inr other ↦ rw other (omega arith)
]

-- what holds where a page is to be written
pub record IsLeft (page : ℕ) (locations : List ℕ) : Type 0 where
  pub climb : Climb page (by_page locations)
  pub sized : AllByRecursion IsGroup (by_page locations)

-- what holds of that page and of what is left after it
pub record IsPageDone (page at : ℕ) (left : List ℕ) : Type 0 where
  pub reached : page ≤ at / 256
  pub some : 1 ≤ run (at / 256) left
  pub most : run (at / 256) left ≤ 128
  pub within : run (at / 256) left ≤ length left
  pub next : IsLeft (at / 256 + 1) (drop (run (at / 256) left) left)
  pub text : flat_map page_text (pages_from page (by_page left))
      ≡ flat_map page_text (passing (at / 256 - page)) ++ ((run (at / 256) left - 1) ∷ lows (take (run (at / 256) left) left))
      ++ flat_map page_text (pages_from (at / 256 + 1) (by_page (drop (run (at / 256) left) left)))

pub page_done : (page at : ℕ) (more left : List ℕ) → left ≡ at ∷ more → IsLeft page left → IsPageDone page at left
page_done page at more left is here = subst (IsPageDone page at) (sym is) (at_front (subst (IsLeft page) is here))
  where
    at_front : IsLeft page (at ∷ more) → IsPageDone page at (at ∷ more)
    at_front of =
        let n = run (at / 256) (at ∷ more) in
        let climb = subst (Climb page) (first_page at more) of.climb in
        let sized = subst (AllByRecursion IsGroup) (first_page at more) of.sized in
        let within = run_within (at / 256) (at ∷ more) in
        let size : length (lows (take n (at ∷ more))) ≡ n = length-map (take n (at ∷ more)) (λ (a : ℕ). a % 256) ∙ omega (arith, length-take n (at ∷ more), within) in
        let group = Located (lows (take n (at ∷ more))) in
        let others = pages_from (at / 256 + 1) (by_page (drop n (at ∷ more))) in
        record {
          reached = climb.0;
          some = omega (arith, sized.0, size);
          most = omega (arith, sized.0, size);
          within = within;
          next = record { climb = climb.1; sized = sized.1 };
          text =
              ap (λ (g : List Group). flat_map page_text (pages_from page g)) (first_page at more)
              ∙ flat_map-append page_text (passing (at / 256 - page)) (group ∷ others)
              ∙ ap (λ (l : List ℕ). flat_map page_text (passing (at / 256 - page)) ++ l) (flat_map-cons page_text group others)
              ∙ ap (λ (k : ℕ). flat_map page_text (passing (at / 256 - page)) ++ (((k - 1) ∷ lows (take n (at ∷ more))) ++ flat_map page_text others)) size
              ∙ sym (append_assoc (flat_map page_text (passing (at / 256 - page))) ((n - 1) ∷ lows (take n (at ∷ more))) (flat_map page_text others));
        }

-- what is before the page, the page, and what is left
pub whole_again : (before skips rest : List ℕ) (count : ℕ) (low new1 new2 new3 : List ℕ) → new1 ≡ before ++ skips → new2 ≡ new1 ++ count ∷ [] → new3 ≡ new2 ++ low
    → new3 ++ rest ≡ before ++ (skips ++ (count ∷ low) ++ rest)
whole_again before skips rest count low new1 new2 new3 a b c = search (append_assoc, a, b, c)
