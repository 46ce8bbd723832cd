-- Going over the cells of a segment one by one.
use Rattle.std.proofs.Common.{◌≡◌, ℕ, zero, suc, ◌+◌, List, [], ◌∷◌, length, drop, Option, Some, None, Result, Err, refl, sym, ap, subst, ◌∙◌, arith}
use Rattle.std.specs.Prelude.{slice_get, option_and_then}
use Rattle.std.specs.Option.{option_map_or}
use Rattle.std.proofs.lemmas.List.{drop_at, length-append, length-replicate}
use Rattle.omf_format.specs.File.{Segment, segment_at}
use Rattle.load_meaning.specs.Cells.{Cell, Byte, Part, cells, cell_at}
use Rattle.load_meaning.specs.Cells as format
use Rattle.load_meaning.specs.WrittenBody.{zeros_after}
use Rattle.omf_cells.specs.Whole.{front_of, front_at}
use Rattle.omf_compact.specs.Stretches.{first_broken, stretches}
use Rattle.omf_compact.specs.laws.Walk.{Found, placed, parts_at, with_part, walk, IsNoPart, IsPartAt}
use Rattle.omf_compact.specs.declared.parting.Single.{Single}
use Rattle.omf_compact.specs.laws.Fronts.{front, zero_cells, front-zeros}
use Rattle.omf_compact.specs.laws.WalkLaws.{walk-step, walk-stop, parted_ok, parted_broken}

drop_next : {A : Type 0} (xs : List A) (i : ℕ) (x : A) → slice_get xs i ≡ Some x → drop i xs ≡ x ∷ drop (i + 1) xs
drop_next [] i x e = absurd cc
drop_next {A} (y ∷ xs) zero x e = let same : y ≡ x = cc in ap (λ (z : A). z ∷ xs) same
drop_next (y ∷ xs) (suc i) x e = let step : suc i + 1 ≡ suc (i + 1) = omega arith in rw step (drop_next xs i x e)

drop_none : {A : Type 0} (xs : List A) (i : ℕ) → slice_get xs i ≡ None → drop i xs ≡ []
drop_none [] zero e = refl
drop_none [] (suc i) e = refl
drop_none (x ∷ xs) zero e = absurd cc
drop_none (x ∷ xs) (suc i) e = drop_none xs i e

drop_past : {A : Type 0} (xs : List A) (i : ℕ) → slice_get xs i ≡ None → drop (i + 1) xs ≡ []
drop_past [] zero e = refl
drop_past [] (suc i) e = let step : suc i + 1 ≡ suc (i + 1) = omega arith in rw step refl
drop_past (x ∷ xs) zero e = absurd cc
drop_past (x ∷ xs) (suc i) e = let step : suc i + 1 ≡ suc (i + 1) = omega arith in rw step (drop_past xs i e)

-- the cell of a segment
cell_is : (segments : List Segment) (number at : ℕ) (s : Segment) → segment_at segments number ≡ Some s → cell_at segments number at ≡ slice_get (cells s) at
cell_is segments number at s is = ap (option_and_then (λ (t : Segment). slice_get (cells t) at)) is

-- the parts from a place on, where a part is there, and where none is
pub parts_next : (segments : List Segment) (number at : ℕ) (s : Segment) (part : Single) → segment_at segments number ≡ Some s → IsPartAt part at (cell_at segments number at)
    → parts_at at (drop at (cells s)) ≡ placed part ∷ parts_at (at + 1) (drop (at + 1) (cells s))
parts_next segments number at s part is here =
    ap (parts_at at) (drop_next (cells s) at (placed part).1 (sym (cell_is segments number at s is) ∙ here.1))
    ∙ ap (λ (n : ℕ). found n ∷ parts_at (at + 1) (drop (at + 1) (cells s))) (sym here.0)
  where
    found : ℕ → Found
    found n = (n, (placed part).1)

pub parts_over : (segments : List Segment) (number at : ℕ) (s : Segment) → segment_at segments number ≡ Some s → IsNoPart (cell_at segments number at)
    → parts_at at (drop at (cells s)) ≡ parts_at (at + 1) (drop (at + 1) (cells s))
parts_over segments number at s is none = by_cell (slice_get (cells s) at) refl (subst IsNoPart (cell_is segments number at s is) none)
  where
    by_cell : (o : Option Cell) → slice_get (cells s) at ≡ o → IsNoPart o → parts_at at (drop at (cells s)) ≡ parts_at (at + 1) (drop (at + 1) (cells s))
    by_cell None e n = ap (parts_at at) (drop_none (cells s) at e) ∙ sym (ap (parts_at (at + 1)) (drop_past (cells s) at e))
    by_cell (Some (Byte b)) e n = ap (parts_at at) (drop_next (cells s) at (Byte b) e)
    by_cell (Some (Part f g o sh i)) e n = absurd n

no_parts : (at n : ℕ) → parts_at at (zero_cells n) ≡ []
no_parts at zero = refl
no_parts at (suc n) = no_parts (at + 1) n

-- among the last zeros there are none
pub parts_after : (segments : List Segment) (number end : ℕ) (s : Segment) → segment_at segments number ≡ Some s → end ≡ front_at segments number → parts_at end (drop end (cells s)) ≡ []
parts_after segments number end s is at =
    ap (parts_at end) (ap (drop end) (front-zeros (cells s)) ∙ drop_at (front (cells s)) (zero_cells (zeros_after (cells s))) end size) ∙ no_parts end (zeros_after (cells s))
  where
    there : end ≡ front_of s
    there = at ∙ front_is (segment_at segments number) is
      where
        front_is : (o : Option Segment) → o ≡ Some s → option_map_or front_of o 0 ≡ front_of s
        front_is o e = ap (λ (p : Option Segment). option_map_or front_of p 0) e

    size : length (front (cells s)) ≡ end
    size = omega (arith, there, ap length (front-zeros (cells s)), length-append (front (cells s)) (zero_cells (zeros_after (cells s))), length-replicate {A = Cell} (zeros_after (cells s)) (Byte 0))

-- ---- a walk

-- the parts of a segment are gone over up to a place, with these patches so far
abbrev pub Walked : List Segment → ℕ → ℕ → List format.Patch → Type 0
Walked segments number at patches = (s : Segment) → segment_at segments number ≡ Some s → walk [] (parts_at 0 (cells s)) ≡ walk patches (parts_at at (drop at (cells s)))

pub walked_more : (segments : List Segment) (number at : ℕ) (patches more : List format.Patch) (part : Single) → Walked segments number at patches → IsPartAt part at (cell_at segments number at)
    → with_part patches (placed part).0 (placed part).1 ≡ Some more → Walked segments number (at + 1) more
walked_more segments number at patches more part walked here put s is =
    walked s is ∙ ap (walk patches) (parts_next segments number at s part is here) ∙ walk-step patches more (placed part) (parts_at (at + 1) (drop (at + 1) (cells s))) put

pub walked_over : (segments : List Segment) (number at : ℕ) (patches : List format.Patch) → Walked segments number at patches → IsNoPart (cell_at segments number at) → Walked segments number (at + 1) patches
walked_over segments number at patches walked none s is = walked s is ∙ ap (walk patches) (parts_over segments number at s is none)

pub walked_broken : (segments : List Segment) (number at : ℕ) (patches : List format.Patch) (part : Single) (s : Segment) → segment_at segments number ≡ Some s → Walked segments number at patches → IsPartAt part at (cell_at segments number at)
    → with_part patches (placed part).0 (placed part).1 ≡ None → first_broken (cells s) ≡ Some at
walked_broken segments number at patches part s is walked here stops =
    parted_broken (cells s) (parts_at 0 (cells s)) at
    (walked s is ∙ ap (walk patches) (parts_next segments number at s part is here) ∙ walk-stop patches (placed part) (parts_at (at + 1) (drop (at + 1) (cells s))) stops ∙ ap (λ (n : ℕ). failed n) here.0)
    refl
  where
    failed : ℕ → Result (List format.Patch) ℕ
    failed n = Err n

pub walked_all : (segments : List Segment) (number end : ℕ) (patches : List format.Patch) (s : Segment) → segment_at segments number ≡ Some s → Walked segments number end patches → end ≡ front_at segments number
    → (first_broken (cells s) ≡ None) × (patches ≡ stretches (cells s))
walked_all segments number end patches s is walked at =
    parted_ok (cells s) (parts_at 0 (cells s)) patches (walked s is ∙ ap (walk patches) (parts_after segments number end s is at)) refl
