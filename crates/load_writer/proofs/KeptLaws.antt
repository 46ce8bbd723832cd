-- How much of the data of a written body is kept: up to the last cell that isn't a byte 0.
use Rattle.std.proofs.Common.{◌≡◌, ℕ, ◌+◌, ◌-◌, ◌<◌, ◌≤◌, true, false, leb, List, [], ◌∷◌, length, map, Option, Some, None, refl, sym, ap, subst, ◌∙◌, arith, inl, inr}
use Rattle.std.specs.Prelude.{◌⊎◌, slice_get, get_or, option_map}
use Rattle.std.proofs.lemmas.Bool.{cases_lt, and_parts, eq-eqb, ne_eqb, leb-true}
use Rattle.std.proofs.lemmas.Option.{slice_get_within, slice_get-map, slice_get-get_or}
use Rattle.load_meaning.specs.Cells.{Cell, Byte, Part, Patch, patched_cells}
use Rattle.load_meaning.specs.WrittenBody.{AreWritten, zeros_after, written_cells}
use Rattle.load_meaning.specs.laws.Steps.{is_zero}
use Rattle.load_meaning.specs.laws.LayingLaws.{Covers, Has, Missed, Found, get-missed, get-found}
use Rattle.load_meaning.specs.laws.StoredLaws.{written_apart, parts, get-parts, patched-laid, fit-cells, HasPart, zeros_exact, no_byte, cells_size}
use Rattle.load_writer.specs.WrittenParts.{end_after, IsKept}

-- no patch lies after the end of the last
pub end_low : (size low : ℕ) (patches : List Patch) → AreWritten size low patches → low ≤ end_after low patches
end_low size low [] are = omega arith
end_low size low (p ∷ patches) are = omega (arith, end_low size (p.location + p.count) patches are.2, are.1)

covered_below : (size low : ℕ) (patches : List Patch) (p : Patch) (k : ℕ) → AreWritten size low patches → Has patches p → Covers p k → k < end_after low patches
covered_below size low [] p k are has c = absurd has
covered_below size low (q ∷ patches) p k are has c = elim has [
  | inl same ↦ let cq : Covers q k = subst (λ (r : Patch). Covers r k) same c in omega (arith, cq, end_low size (q.location + q.count) patches are.2)
  | inr more ↦ covered_below size (q.location + q.count) patches p k are.2 more c
]

pub end_within : (size low : ℕ) (patches : List Patch) → low ≤ size → AreWritten size low patches → end_after low patches ≤ size
end_within size low [] le are = le
end_within size low (p ∷ patches) le are = end_within size (p.location + p.count) patches are.0.inside are.2

-- and the byte before it is one of the last patch's
last_found : (size low : ℕ) (patches : List Patch) → AreWritten size low patches → (end_after low patches ≡ low) ⊎ Found patches (end_after low patches - 1)
last_found size low [] are = inl refl
last_found size low (p ∷ patches) are =
    let some : 1 ≤ p.count = leb-true 1 p.count (and_parts (leb 1 p.count) (leb p.count 4) are.0.count').0 in
    elim (last_found size (p.location + p.count) patches are.2) [
      | inl same ↦ inr (p, inl refl, (omega (arith, same, some), omega (arith, same, some)))
      | inr found ↦ inr (found.0, inr found.1, found.2)
    ]

-- a cell that no patch covers, and one that a patch does
cell_missed : (content : List ℕ) (patches : List Patch) (k : ℕ) → AreWritten (length content) 0 patches → Missed patches k
    → slice_get (patched_cells (map Byte content) patches) k ≡ option_map Byte (slice_get content k)
cell_missed content patches k are none =
    ap (λ (l : List Cell). slice_get l k) (patched-laid (map Byte content) patches) ∙ get-missed parts patches (map Byte content) k (fit-cells patches content are) none ∙ slice_get-map Byte content k

cell_found : (content : List ℕ) (patches : List Patch) (k : ℕ) → AreWritten (length content) 0 patches → Found patches k → HasPart (patched_cells (map Byte content) patches) k
cell_found content patches k are found =
    let p = found.0 in
    let there : slice_get (patched_cells (map Byte content) patches) k ≡ Some (Part p.file p.segment p.offset p.shift (0 + (k - p.location))) =
    ap (λ (l : List Cell). slice_get l k) (patched-laid (map Byte content) patches)
    ∙ get-found parts patches (map Byte content) k p (fit-cells patches content are) (λ q has c. written_apart (length content) 0 patches are q p k has found.1 c found.2) found.1 found.2
    ∙ get-parts p 0 p.count (k - p.location) (omega (arith, found.2)) in
    (Part p.file p.segment p.offset p.shift (0 + (k - p.location)), there, refl)

-- none lies from the end on
past_end : (content : List ℕ) (patches : List Patch) (k : ℕ) → AreWritten (length content) 0 patches → end_after 0 patches ≤ k → Missed patches k
past_end content patches k are le p has c = let lt = covered_below (length content) 0 patches p k are has c in omega (arith, le, lt)

pub byte_is : (o : Option ℕ) (c : Cell) → o ≡ Some 0 → option_map Byte o ≡ Some c → is_zero c ≡ true
byte_is None c e is = let clash : no_byte ≡ Some 0 = e in absurd cc
byte_is (Some b) c e is =
    let zero' : b ≡ 0 = same b 0 e in
    let cell : Byte b ≡ c = same_cell (Byte b) c is in
    subst (λ (x : Cell). is_zero x ≡ true) cell (eq-eqb b 0 zero')
  where
    same : (x y : ℕ) → Some x ≡ Some y → x ≡ y
    same x y e = cc

    same_cell : (x y : Cell) → Some x ≡ Some y → x ≡ y
    same_cell x y e = cc

pub other_byte : (o : Option ℕ) (content : List ℕ) (k : ℕ) → o ≡ slice_get content k → k < length content → (o ≡ Some 0 → ⊥) → (c : Cell) × (option_map Byte o ≡ Some c) × (is_zero c ≡ false)
other_byte None content k is lt not_zero = let clash : no_byte ≡ Some (get_or content k 0) = is ∙ slice_get-get_or content k 0 lt in absurd cc
other_byte (Some b) content k is lt not_zero = (Byte b, refl, ne_eqb b 0 (λ (e : b ≡ 0). not_zero (ap (λ (n : ℕ). some n) e)))
  where
    some : ℕ → Option ℕ
    some n = Some n

pub kept_is : (content : List ℕ) (patches : List Patch) (size : ℕ) → AreWritten (length content) 0 patches → IsKept content (end_after 0 patches) size
    → size ≡ length content - zeros_after (written_cells content patches)
unfolding written_cells
kept_is content patches size are is =
    zeros_exact cells size each last (omega (arith, is.within, len)) ∙ ap (λ (n : ℕ). n - zeros_after cells) len
  where
    cells : List Cell
    cells = patched_cells (map Byte content) patches

    len : length cells ≡ length content
    len = cells_size content patches are

    each : (k : ℕ) (c : Cell) → size ≤ k → slice_get cells k ≡ Some c → is_zero c ≡ true
    each k c le e =
        let inside : k < length content = omega (arith, len, slice_get_within cells k c e) in
        byte_is (slice_get content k) c (is.zeros k le inside) (sym (cell_missed content patches k are (past_end content patches k are (omega (arith, le, is.reaches)))) ∙ e)

    at_end : size ≡ end_after 0 patches → (size ≡ 0) ⊎ ((1 ≤ size) × HasPart cells (size - 1))
    at_end same = elim (last_found (length content) 0 patches are) [
      | inl none ↦ inl (same ∙ none)
      | inr found ↦
          let lt = covered_below (length content) 0 patches found.0 (end_after 0 patches - 1) are found.1 found.2 in
          inr (omega (arith, same, lt), subst (HasPart cells) (ap (λ (n : ℕ). n - 1) (sym same)) (cell_found content patches (end_after 0 patches - 1) are found))
    ]

    last : (size ≡ 0) ⊎ ((1 ≤ size) × HasPart cells (size - 1))
    last = elim is.last [
      | inl same ↦ at_end same
      | inr other ↦ elim (cases_lt (size - 1) (end_after 0 patches)) [
        | inl lt ↦ at_end (omega (arith, lt, is.reaches))
        | inr past ↦
            let byte = other_byte (slice_get content (size - 1)) content (size - 1) refl (omega (arith, is.within, other.1)) other.0 in
            inr (other.1, (byte.0, cell_missed content patches (size - 1) are (past_end content patches (size - 1) are past) ∙ byte.1, byte.2))
      ]
    ]
