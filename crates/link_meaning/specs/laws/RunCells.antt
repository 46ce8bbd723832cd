-- Cells that are bytes and whole places: their patches over their bytes are those cells.
use Rattle.std.proofs.Common.{◌≡◌, ℕ, ℤ, zero, suc, ◌+◌, ◌^◌, ◌<◌, ◌≤◌, Bool, true, false, eqb, List, [], ◌∷◌, ◌++◌, length, map, take, drop, refl, sym, ap, subst, ◌∙◌, append_assoc, arith}
use Rattle.std.specs.Prelude.{◌&&◌, IsTrue, cond}
use Rattle.std.specs.List.{flat_map, AllByRecursion}
use Rattle.std.specs.Ordering.{int_eq}
use Rattle.std.proofs.Math.Seq.{drop-append-add}
use Rattle.std.proofs.lemmas.Bool.{eq-eqb, ne_eqb, and_from}
use Rattle.std.proofs.lemmas.Bool.Decides.{Decides-int_eq}
use Rattle.std.proofs.lemmas.List.{take_at, drop_at, length-append, length-map, map-append}
use Rattle.std.proofs.lemmas.List.Concat.{flat_map-cons}
use Rattle.omf_format.specs.Field.{is_count, is_shift}
use Rattle.load_meaning.specs.Cells.{Cell, Byte, Part, Patch, parts_from, patched_cells, byte_under}
use Rattle.load_meaning.specs.laws.Steps.{with_patch}
use Rattle.load_meaning.specs.WrittenBody.{AreWritten, written_cells}
use Rattle.link_meaning.specs.Fitting.{parts}
use Rattle.link_meaning.specs.LinkWritten.{run_length, patch_at, patches_from, patches_of_cells}

-- a byte, or the bytes of a place
pub data Piece : Type 0 where
  One : (b : ℕ) → Piece
  Whole : (count segment offset : ℕ) (shift : ℤ) → Piece

abbrev pub cells_of : Piece → List Cell
cells_of (One b) = Byte b ∷ []
cells_of (Whole count segment offset shift) = parts count segment offset shift

-- the place's fields fit a patch record
abbrev pub IsPiece : Piece → Type 0
IsPiece (One b) = Unit {0}
IsPiece (Whole count segment offset shift) = IsTrue (is_count count) × IsTrue (is_shift shift) × (segment < 2 ^ 16) × (offset < 2 ^ 32)

-- the cells are such pieces, one after another
pub record AreRuns (cells : List Cell) : Type 0 where
  pub pieces : List Piece
  pub each : AllByRecursion IsPiece pieces
  pub whole : cells ≡ flat_map cells_of pieces

abbrev patch_of : ℕ → ℕ → ℕ → ℕ → ℤ → Patch
patch_of at count segment offset shift = record { location = at; count = count; file = 1; segment = segment; offset = offset; shift = shift }

abbrev patches_for : ℕ → List Piece → List Patch
patches_for at [] = []
patches_for at (One b ∷ pieces) = patches_for (at + 1) pieces
patches_for at (Whole count segment offset shift ∷ pieces) = patch_of at count segment offset shift ∷ patches_for (at + count) pieces

-- ---- how many cells

length-parts : (p : Patch) (index n : ℕ) → length (parts_from p index n) ≡ n
length-parts p index zero = refl
length-parts p index (suc n) = ap suc (length-parts p (index + 1) n)

-- the bytes of a place don't depend on where they are
parts_same : (p q : Patch) (index n : ℕ) → p.file ≡ q.file → p.segment ≡ q.segment → p.offset ≡ q.offset → p.shift ≡ q.shift → parts_from p index n ≡ parts_from q index n
parts_same p q index zero a b c d = refl
parts_same p q index (suc n) a b c d =
    ap (λ (f : ℕ). Part f p.segment p.offset p.shift index ∷ parts_from p (index + 1) n) a
    ∙ ap (λ (s : ℕ). Part q.file s p.offset p.shift index ∷ parts_from p (index + 1) n) b
    ∙ ap (λ (o : ℕ). Part q.file q.segment o p.shift index ∷ parts_from p (index + 1) n) c
    ∙ ap (λ (s : ℤ). Part q.file q.segment q.offset s index ∷ parts_from p (index + 1) n) d
    ∙ ap (λ (l : List Cell). Part q.file q.segment q.offset q.shift index ∷ l) (parts_same p q (index + 1) n a b c d)

-- ---- the patches of pieces

ends_there : (p : Patch) (index : ℕ) (pieces : List Piece) → 1 ≤ index → AllByRecursion IsPiece pieces → run_length p index (flat_map cells_of pieces) ≡ 0
ends_there p index [] le each = refl
ends_there p index (One b ∷ pieces) le each = ap (run_length p index) (flat_map-cons cells_of (One b) pieces)
ends_there p index (Whole zero segment offset shift ∷ pieces) le each = absurd (no_count each.0.0)
  where
    no_count : is_count 0 ≡ true → ⊥
    no_count e = cc
ends_there p index (Whole (suc n) segment offset shift ∷ pieces) le each =
    let rest = parts_from (patch_of 0 (suc n) segment offset shift) 1 n ++ flat_map cells_of pieces in
    ap (run_length p index) (flat_map-cons cells_of (Whole (suc n) segment offset shift) pieces)
    ∙ ap (λ (t : Bool). cond t (1 + run_length p (index + 1) rest) 0) (last_fails (eqb 1 p.file && eqb segment p.segment && eqb offset p.offset && int_eq shift p.shift) (eqb 0 index) (ne_eqb 0 index (λ (e : 0 ≡ index). absurd (omega (arith, e)))))
  where
    last_fails : (a b : Bool) → b ≡ false → (a && b) ≡ false
    last_fails true b e = e
    last_fails false b e = refl

-- a run goes on to its end
same_place : (file segment offset index : ℕ) (shift : ℤ) → (eqb file file && eqb segment segment && eqb offset offset && int_eq shift shift && eqb index index) ≡ true
same_place file segment offset index shift =
    and_from _ _ (and_from _ _ (and_from _ _ (and_from _ _ (eq-eqb file file refl) (eq-eqb segment segment refl)) (eq-eqb offset offset refl)) ((Decides-int_eq shift shift).1 refl)) (eq-eqb index index refl)

runs_on : (p : Patch) (index n : ℕ) (rest : List Cell) → run_length p (index + n) rest ≡ 0 → run_length p index (parts_from p index n ++ rest) ≡ n
runs_on p index zero rest e = ap (λ (i : ℕ). run_length p i rest) (omega arith) ∙ e
runs_on p index (suc n) rest e =
    let more = runs_on p (index + 1) n rest (ap (λ (i : ℕ). run_length p i rest) (omega arith) ∙ e) in
    ap (λ (t : Bool). cond t (1 + run_length p (index + 1) (parts_from p (index + 1) n ++ rest)) 0) (same_place p.file p.segment p.offset index p.shift) ∙ omega (arith, more)

-- after its first cell no patch begins in a run
none_inside : (p : Patch) (at index n : ℕ) (rest : List Cell) → 1 ≤ index → patches_from at (parts_from p index n ++ rest) ≡ patches_from (at + n) rest
none_inside p at index zero rest le = ap (λ (i : ℕ). patches_from i rest) (omega arith)
none_inside p at index (suc n) rest le =
    let more = parts_from p (index + 1) n ++ rest in
    let first : patch_at at (Part p.file p.segment p.offset p.shift index) more ≡ [] = rw (ne_eqb index 0 (λ (e : index ≡ 0). absurd (omega (arith, e, le)))) refl in
    ap (λ (l : List Patch). l ++ patches_from (at + 1) more) first
    ∙ none_inside p (at + 1) (index + 1) n rest (omega arith)
    ∙ ap (λ (i : ℕ). patches_from i rest) (omega arith)

one_more : (k n : ℕ) → k ≡ n → 1 + k ≡ suc n
one_more k n e = omega (arith, e)

pub patches_are : (at : ℕ) (pieces : List Piece) → AllByRecursion IsPiece pieces → patches_from at (flat_map cells_of pieces) ≡ patches_for at pieces
patches_are at [] each = refl
patches_are at (One b ∷ pieces) each = ap (patches_from at) (flat_map-cons cells_of (One b) pieces) ∙ patches_are (at + 1) pieces each.1
patches_are at (Whole zero segment offset shift ∷ pieces) each = absurd (no_count each.0.0)
  where
    no_count : is_count 0 ≡ true → ⊥
    no_count e = cc
patches_are at (Whole (suc n) segment offset shift ∷ pieces) each =
    let p = patch_of at 1 segment offset shift in
    let q = patch_of 0 (suc n) segment offset shift in
    let rest = flat_map cells_of pieces in
    let more = parts_from q 1 n ++ rest in
    let same : parts_from q 1 n ≡ parts_from p 1 n = parts_same q p 1 n refl refl refl refl in
    let size : run_length p 1 more ≡ n = ap (λ (l : List Cell). run_length p 1 (l ++ rest)) same ∙ runs_on p 1 n rest (ends_there p (1 + n) pieces (omega arith) each.1) in
    ap (patches_from at) (flat_map-cons cells_of (Whole (suc n) segment offset shift) pieces)
    ∙ ap (λ (k : ℕ). patch_of at k segment offset shift ∷ patches_from (at + 1) more) (one_more (run_length p 1 more) n size)
    ∙ ap (λ (l : List Patch). patch_of at (suc n) segment offset shift ∷ l) (none_inside q (at + 1) 1 n rest (omega arith) ∙ ap (λ (i : ℕ). patches_from i rest) (omega arith) ∙ patches_are (at + suc n) pieces each.1)

-- ---- they can be written

are_written : (size at : ℕ) (pieces : List Piece) → AllByRecursion IsPiece pieces → at + length (flat_map cells_of pieces) ≤ size → (low : ℕ) → low ≤ at → AreWritten size low (patches_for at pieces)
are_written size at [] each le low below = tt
are_written size at (One b ∷ pieces) each le low below =
    let first : length (flat_map cells_of (One b ∷ pieces)) ≡ suc (length (flat_map cells_of pieces)) = ap length (flat_map-cons cells_of (One b) pieces) in
    are_written size (at + 1) pieces each.1 (omega (arith, le, first)) low (omega (arith, below))
are_written size at (Whole count segment offset shift ∷ pieces) each le low below =
    let p = patch_of 0 count segment offset shift in
    let first : length (flat_map cells_of (Whole count segment offset shift ∷ pieces)) ≡ count + length (flat_map cells_of pieces) =
    ap length (flat_map-cons cells_of (Whole count segment offset shift) pieces) ∙ length-append (parts_from p 0 count) (flat_map cells_of pieces) ∙ ap (λ (n : ℕ). n + length (flat_map cells_of pieces)) (length-parts p 0 count) in (
      record { count' = each.0.0; shift' = each.0.1; file' = refl; segment' = each.0.2; offset' = each.0.3; inside = omega (arith, le, first) },
      below,
      are_written size (at + count) pieces each.1 (omega (arith, le, first)) (at + count) (omega arith),
    )

-- ---- the patches over the bytes

abbrev under : List Cell → List Cell
under cells = map Byte (map byte_under cells)

length-under : (cells : List Cell) → length (under cells) ≡ length cells
length-under cells = length-map (map byte_under cells) (λ (b : ℕ). Byte b) ∙ length-map cells byte_under

under-append : (xs ys : List Cell) → under (xs ++ ys) ≡ under xs ++ under ys
under-append xs ys = ap (map Byte) (map-append byte_under xs ys) ∙ map-append (λ (b : ℕ). Byte b) (map byte_under xs) (map byte_under ys)

after_both : (front rest : List Cell) (n k : ℕ) → length front ≡ n → drop (n + k) (front ++ rest) ≡ drop k rest
after_both front rest n k is = subst (λ (i : ℕ). drop (i + k) (front ++ rest) ≡ drop k rest) is (drop-append-add front rest k)

-- one patch over the bytes of its cells
one_over : (done cells rest : List Cell) (p : Patch) → p.location ≡ length done → length cells ≡ p.count → parts_from p 0 p.count ≡ cells
    → with_patch (done ++ (under cells ++ rest)) p ≡ (done ++ cells) ++ rest
one_over done cells rest p at size is =
    let first : take p.location (done ++ (under cells ++ rest)) ≡ done = take_at done (under cells ++ rest) p.location (sym at) in
    let last : drop (p.location + p.count) (done ++ (under cells ++ rest)) ≡ rest =
    after_both done (under cells ++ rest) p.location p.count (sym at) ∙ drop_at (under cells) rest p.count (length-under cells ∙ size) in
    ap (λ (l : List Cell). l ++ parts_from p 0 p.count ++ drop (p.location + p.count) (done ++ (under cells ++ rest))) first
    ∙ ap (λ (l : List Cell). done ++ l ++ drop (p.location + p.count) (done ++ (under cells ++ rest))) is
    ∙ ap (λ (l : List Cell). done ++ cells ++ l) last

over : (done : List Cell) (pieces : List Piece) → patched_cells (done ++ under (flat_map cells_of pieces)) (patches_for (length done) pieces) ≡ done ++ flat_map cells_of pieces
over done [] = refl
over done (One b ∷ pieces) =
    let rest = flat_map cells_of pieces in
    let all : flat_map cells_of (One b ∷ pieces) ≡ Byte b ∷ rest = flat_map-cons cells_of (One b) pieces in
    let next : length (done ++ Byte b ∷ []) ≡ length done + 1 = length-append done (Byte b ∷ []) in
    ap (λ (l : List Cell). patched_cells (done ++ under l) (patches_for (length done + 1) pieces)) all
    ∙ ap (λ (l : List Cell). patched_cells l (patches_for (length done + 1) pieces)) (sym (append_assoc done (Byte b ∷ []) (under rest)))
    ∙ ap (λ (n : ℕ). patched_cells ((done ++ Byte b ∷ []) ++ under rest) (patches_for n pieces)) (sym next)
    ∙ over (done ++ Byte b ∷ []) pieces
    ∙ append_assoc done (Byte b ∷ []) rest
    ∙ ap (λ (l : List Cell). done ++ l) (sym all)
over done (Whole count segment offset shift ∷ pieces) =
    let p = patch_of (length done) count segment offset shift in
    let q = patch_of 0 count segment offset shift in
    let here = parts_from q 0 count in
    let rest = flat_map cells_of pieces in
    let all : flat_map cells_of (Whole count segment offset shift ∷ pieces) ≡ here ++ rest = flat_map-cons cells_of (Whole count segment offset shift) pieces in
    let one = one_over done here (under rest) p refl (length-parts q 0 count) (parts_same p q 0 count refl refl refl refl) in
    let next : length (done ++ here) ≡ length done + count = length-append done here ∙ ap (λ (n : ℕ). length done + n) (length-parts q 0 count) in
    ap (λ (l : List Cell). patched_cells (with_patch (done ++ under l) p) (patches_for (length done + count) pieces)) all
    ∙ ap (λ (l : List Cell). patched_cells (with_patch (done ++ l) p) (patches_for (length done + count) pieces)) (under-append here rest)
    ∙ ap (λ (l : List Cell). patched_cells l (patches_for (length done + count) pieces)) one
    ∙ ap (λ (n : ℕ). patched_cells ((done ++ here) ++ under rest) (patches_for n pieces)) (sym next)
    ∙ over (done ++ here) pieces
    ∙ append_assoc done here rest
    ∙ ap (λ (l : List Cell). done ++ l) (sym all)

-- the patches of such cells can be written, and over the bytes they are those cells
pub runs_written : (cells : List Cell) → AreRuns cells → AreWritten (length (map byte_under cells)) 0 (patches_of_cells cells)
unfolding patches_of_cells
runs_written cells are =
    let whole = are.whole in
    let size : length (map byte_under cells) ≡ length (flat_map cells_of are.pieces) = length-map cells byte_under ∙ ap length whole in
    subst (λ (l : List Patch). AreWritten (length (map byte_under cells)) 0 l) (sym (ap (patches_from 0) whole ∙ patches_are 0 are.pieces are.each))
    (are_written (length (map byte_under cells)) 0 are.pieces are.each (omega (arith, size)) 0 (omega arith))

pub runs_stand : (cells : List Cell) → AreRuns cells → written_cells (map byte_under cells) (patches_of_cells cells) ≡ cells
unfolding patches_of_cells written_cells
runs_stand cells are =
    let whole = are.whole in
    ap (λ (l : List Cell). patched_cells (under l) (patches_from 0 l)) whole
    ∙ ap (λ (l : List Patch). patched_cells (under (flat_map cells_of are.pieces)) l) (patches_are 0 are.pieces are.each)
    ∙ over [] are.pieces
    ∙ sym whole
