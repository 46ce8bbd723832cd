-- Patches that lie apart over cells that can be written can be written.
use Rattle.std.proofs.Common.{◌≡◌, ℕ, zero, suc, ◌+◌, ◌-◌, ◌<◌, leb, List, [], ◌∷◌, length, map, Some, refl, ap, ◌∙◌, arith, inl, inr}
use Rattle.std.specs.Prelude.{slice_get}
use Rattle.std.specs.List.{AllByRecursion}
use Rattle.std.proofs.lemmas.Bool.{and_from, le-leb}
use Rattle.std.proofs.lemmas.List.{length-map}
use Rattle.load_meaning.specs.Cells.{Cell, Byte, Part, Patch, parts_from}
use Rattle.load_meaning.specs.WrittenBody.{IsWrittenPatch, AreWritten, written_cells}
use Rattle.load_meaning.specs.laws.LayingLaws.{Has, Fit, laid, get-found}
use Rattle.load_meaning.specs.laws.StoredLaws.{parts, get-parts, patched-laid}
use Rattle.omf_cells.specs.Whole.{AreSpaced}
use Rattle.omf_cells.specs.SpacedLaws.{spaced_is, spaced_apart}
use Rattle.omf_compact.specs.Stretches.{IsWrittenCell}
use Rattle.omf_compact.specs.laws.StretchLaws.{some_cell, all-at}

length-parts : (q : Patch) → length (parts q) ≡ q.count
length-parts q = from 0 q.count
  where
    from : (index n : ℕ) → length (parts_from q index n) ≡ n
    from index zero = refl
    from index (suc n) = ap (λ (m : ℕ). suc m) (from (index + 1) n)

module _ (content : List ℕ) (ps : List Patch) (are : AreSpaced (length content) 0 ps) (all : AllByRecursion IsWrittenCell (written_cells content ps)) where
  fit : Fit parts (length (map Byte content)) ps
  fit p has = let is = spaced_is (length content) 0 ps p are has in (length-parts p, omega (arith, is.2, length-map content (λ (n : ℕ). Byte n)))

  -- each byte of a patch is one of its cells
  byte-in : (p : Patch) (k : ℕ) → Has ps p → k < p.count → IsWrittenCell (Part p.file p.segment p.offset p.shift k)
  unfolding written_cells
  byte-in p k has lt =
      let place : p.location + k - p.location ≡ k = omega arith in
      let index : 0 + k ≡ k = omega arith in
      let there : slice_get (laid parts (map Byte content) ps) (p.location + k) ≡ Some (Part p.file p.segment p.offset p.shift k) =
      get-found parts ps (map Byte content) (p.location + k) p fit (λ q h c. spaced_apart (length content) 0 ps are q p (p.location + k) h has c (omega arith, omega (arith, lt))) has (omega arith, omega (arith, lt))
      ∙ ap (slice_get (parts p)) place ∙ get-parts p 0 p.count k lt ∙ ap (λ (n : ℕ). some_cell (Part p.file p.segment p.offset p.shift n)) index in
      all-at (written_cells content ps) (p.location + k) (Part p.file p.segment p.offset p.shift k) all (ap (λ (l : List Cell). slice_get l (p.location + k)) (patched-laid (map Byte content) ps) ∙ there)

  written-patch : (p : Patch) → Has ps p → IsWrittenPatch (length content) p
  written-patch p has =
      let is = spaced_is (length content) 0 ps p are has in
      let first = byte-in p 0 has (omega (arith, is.1)) in
      let last = byte-in p (p.count - 1) has (omega (arith, is.1)) in
      record {
        count' = and_from (leb 1 p.count) (leb p.count 4) (le-leb 1 p.count is.1) (le-leb p.count 4 (omega (arith, last.4)));
        shift' = first.3;
        file' = first.0;
        segment' = first.1;
        offset' = first.2;
        inside = is.2;
      }

each-written : (size low : ℕ) (patches : List Patch) → AreSpaced size low patches → ((p : Patch) → Has patches p → IsWrittenPatch size p) → AreWritten size low patches
each-written size low [] are each = tt
each-written size low (p ∷ patches) are each = (each p (inl refl), are.0, each-written size (p.location + p.count) patches are.3 (λ q h. each q (inr h)))

-- Patches that lie apart over cells that can be written can be written.
pub spaced_written : (content : List ℕ) (ps : List Patch) → AreSpaced (length content) 0 ps → AllByRecursion IsWrittenCell (written_cells content ps) → AreWritten (length content) 0 ps
spaced_written content ps are all = each-written (length content) 0 ps are (written-patch content ps are all)
