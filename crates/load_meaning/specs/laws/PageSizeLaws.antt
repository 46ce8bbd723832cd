-- The subrecords of a body are short.
use Rattle.std.proofs.Common.{◌≡◌, ℕ, zero, suc, ◌+◌, ◌-◌, ◌*◌, ◌/◌, ◌%◌, ◌<◌, ◌≤◌, eqb, List, [], ◌∷◌, ◌++◌, length, replicate, refl, ap, ◌∙◌, arith, inl, inr}
use Rattle.std.specs.List.{flat_map}
use Rattle.std.proofs.lemmas.Bool.{cases_Bool}
use Rattle.std.proofs.lemmas.List.{length-append, length-map}
use Rattle.std.proofs.lemmas.List.Concat.{flat_map-cons}
use Rattle.std.proofs.lemmas.Grind.{flat_map-append}
use Rattle.omf_format.specs.Super.{Passed, Located, page_text}
use Rattle.load_meaning.specs.WrittenPages.{passing, Group, in_front, by_page, pages_from, pages_of, pages_text, Rise}
use Rattle.load_meaning.specs.laws.PageLaws.{held, all_held, all_held_again, Climb, climb_lower, climb_all}

-- all of them lie before a place
abbrev pub Under : ℕ → List ℕ → Type 0
Under size [] = Unit {0}
Under size (at ∷ more) = (at < size) × Under size more

abbrev Below : ℕ → List Group → Type 0
Below size [] = Unit {0}
Below size (of ∷ more) = (of.0 < size) × Below size more

below_in_front : (size at : ℕ) (groups : List Group) → at < size → Below size groups → Below size (in_front at groups)
below_in_front size at [] lt b = (omega arith, tt)
below_in_front size at (of ∷ more) lt b = elim (cases_Bool (eqb (at / 256) of.0)) [
  | inl same ↦ rw same b
  | inr other ↦ rw other (omega arith, b)
]

below_all : (size : ℕ) (locations : List ℕ) → Under size locations → Below size (by_page locations)
below_all size [] u = tt
below_all size (at ∷ more) u = below_in_front size at (by_page more) u.0 (below_all size more u.1)

-- a byte for each skip, and no more of them than pages
text_many : (n : ℕ) → length (flat_map page_text (replicate n (Passed 127))) ≡ n
text_many zero = refl
text_many (suc n) = ap length (flat_map-cons page_text (Passed 127) (replicate n (Passed 127))) ∙ ap suc (text_many n)

text_passing : (n : ℕ) → length (flat_map page_text (passing n)) ≤ n
text_passing zero = omega arith
text_passing (suc n) =
    let last = Passed (n % 127 + 1) ∷ [] in
    let split : length (flat_map page_text (passing (suc n))) ≡ length (flat_map page_text (replicate (n / 127) (Passed 127))) + length (flat_map page_text last) =
    ap length (flat_map-append page_text (replicate (n / 127) (Passed 127)) last) ∙ length-append (flat_map page_text (replicate (n / 127) (Passed 127))) (flat_map page_text last) in
    let one : length (flat_map page_text last) ≡ 1 = refl in
    omega (arith, split, one, text_many (n / 127))

text_bound : (size page : ℕ) (groups : List Group) → page ≤ size → Climb page groups → Below size groups
    → length (flat_map page_text (pages_from page groups)) + page ≤ size + length (all_held groups)
text_bound size page [] le c b = omega arith
text_bound size page (of ∷ more) le c b =
    let rest = text_bound size (of.0 + 1) more (omega (arith, b.0)) c.1 b.1 in
    let skip = passing (of.0 - page) in
    let others = pages_from (of.0 + 1) more in
    let split : length (flat_map page_text (skip ++ Located of.1 ∷ others)) ≡ length (flat_map page_text skip) + length (flat_map page_text (Located of.1 ∷ others)) =
    ap length (flat_map-append page_text skip (Located of.1 ∷ others)) ∙ length-append (flat_map page_text skip) (flat_map page_text (Located of.1 ∷ others)) in
    let first : length (flat_map page_text (Located of.1 ∷ others)) ≡ suc (length of.1 + length (flat_map page_text others)) =
    ap length (flat_map-cons page_text (Located of.1) others) ∙ ap suc (length-append of.1 (flat_map page_text others)) in
    let lows : length (held of ++ all_held more) ≡ length of.1 + length (all_held more) = length-append (held of) (all_held more) ∙ ap (λ (n : ℕ). n + length (all_held more)) (length-map of.1 (λ (low : ℕ). of.0 * 256 + low)) in
    omega (arith, rest, split, first, lows, text_passing (of.0 - page), c.0)

few : (size low : ℕ) (locations : List ℕ) → low ≤ size + 1 → Rise low locations → Under size locations → length locations + low ≤ size + 1
few size low [] le rise under = omega (arith, le)
few size low (at ∷ more) le rise under =
    let rest = few size (at + 2) more (omega (arith, under.0)) rise.1 under.1 in
    omega (arith, rest, rise.0)

pub text_short : (size low : ℕ) (locations : List ℕ) → low ≤ size → Rise low locations → Under size locations → length (pages_text locations) ≤ size + size + 1
unfolding pages_text pages_of
text_short size low locations le rise under =
    let climb = climb_lower 0 (low / 256) (by_page locations) (omega arith) (climb_all low locations rise) in
    let bound = text_bound size 0 (by_page locations) (omega arith) climb (below_all size locations under) in
    omega (arith, bound, ap length (all_held_again locations), few size low locations (omega (arith, le)) rise under)
