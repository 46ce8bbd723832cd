-- Why labels are where they are: a label's place is the sum of the lengths of the statements before it, and the linker takes it from there.
use Rattle.std.proofs.Common.{◌≡◌, ℕ, ◌+◌, List, [], ◌∷◌, ◌++◌, length, map, Some, refl, sym, ap, ◌∙◌, arith}
use Rattle.std.specs.Prelude.{slice_get}
use Rattle.omf_format.specs.Record.{Record}
use Rattle.object_meaning.specs.Sizes.{Located, size_at, located_from, records_with_offsets}
use Rattle.asm_meaning.specs.Pieces.{place_after, length_at}
use Rattle.asm_meaning.specs.State.{cells_of, local_of}
use Rattle.asm_meaning.specs.laws.PieceLaws.{place_after-append, length_at-adds}
use Rattle.asm_meaning.specs.LabelLaws.{LengthsAdd, LocalStandsBefore, LinkerSeesPlace}

local_cells : (at : ℕ) (label : List ℕ) (form size : ℕ) (contents : List Record) → place_after at (local_of label form size ++ contents) ≡ place_after at contents
unfolding place_after
local_cells at [] form size contents = refl
local_cells at (byte ∷ label) form size contents = ap (λ (k : ℕ). place_after k contents) (zero_more at)
  where
    zero_more : (k : ℕ) → k + 0 ≡ k
    zero_more k = omega arith

pub lengths_add : LengthsAdd
lengths_add label form contents s =
    place_after-append 0 s.body (local_of label form (length_at (cells_of s) contents) ++ contents)
    ∙ local_cells (cells_of s) label form (length_at (cells_of s) contents) contents ∙ sym (length_at-adds (cells_of s) contents)

pub local_stands_before : LocalStandsBefore
local_stands_before byte label form contents s = refl

found_there : (at : ℕ) (founds : List (ℕ × Record)) (before following : List Record) (r : Record) → map (λ (found : ℕ × Record). found.1) founds ≡ before ++ r ∷ following
    → (l : Located) × (slice_get (located_from at founds) (length before) ≡ Some l) × (l.content ≡ r) × (l.location ≡ place_after at before)
unfolding place_after
found_there at [] [] following r is = absurd cc
found_there at [] (x ∷ before) following r is = absurd cc
found_there at (found ∷ founds) [] following r is =
    (record { at = found.0; location = at; content = found.1 }, refl, first_of is, refl)
  where
    first : List Record → Record
    first [] = r
    first (x ∷ xs) = x

    first_of : found.1 ∷ map (λ (f : ℕ × Record). f.1) founds ≡ r ∷ following → found.1 ≡ r
    first_of e = cc
found_there at (found ∷ founds) (x ∷ before) following r is =
    let same : found.1 ≡ x = heads is in
    let rest = found_there (at + size_at at found.1) founds before following r (tails is) in
    (rest.0, rest.1, rest.2, rest.3 ∙ ap (λ (k : Record). place_after (at + size_at at k) before) same)
  where
    heads : found.1 ∷ map (λ (f : ℕ × Record). f.1) founds ≡ x ∷ (before ++ r ∷ following) → found.1 ≡ x
    heads e = cc

    tails : found.1 ∷ map (λ (f : ℕ × Record). f.1) founds ≡ x ∷ (before ++ r ∷ following) → map (λ (f : ℕ × Record). f.1) founds ≡ before ++ r ∷ following
    tails e = cc

pub linker_sees_place : LinkerSeesPlace
unfolding records_with_offsets
linker_sees_place s before following r is = found_there 0 s.records before following r is
