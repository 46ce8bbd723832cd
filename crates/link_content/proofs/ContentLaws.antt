-- How bytes and patches grow with the cells.
use Rattle.std.proofs.Common.{◌≡◌, ℕ, ℤ, zero, suc, ◌+◌, ◌≤◌, Bool, true, false, eqb, List, [], ◌∷◌, ◌++◌, length, map, replicate, Result, Ok, Err, refl, sym, ap, ◌∙◌, append_assoc, arith}
use Rattle.std.specs.Prelude.{◌&&◌, cond, OnOk}
use Rattle.std.specs.Ordering.{int_eq}
use Rattle.std.proofs.lemmas.Bool.{ne_eqb, eq-eqb, and_from}
use Rattle.std.proofs.lemmas.Bool.Decides.{Decides-int_eq}
use Rattle.std.proofs.lemmas.List.{append-nil, map-append, length-map}
use Rattle.omf_format.specs.Field.{is_count}
use Rattle.load_meaning.specs.Cells.{Cell, Byte, Part, Patch, parts_from, byte_under}
use Rattle.link_meaning.specs.Fitting.{parts}
use Rattle.link_meaning.specs.LinkedCells.{zeros}
use Rattle.load_writer.specs.declared.written.Patch as kept
use Rattle.load_writer.specs.WrittenParts.{seen}
use Rattle.link_content.specs.Holding.{Holding}
use Rattle.link_content.specs.Contents.{HoldsCells}
use Rattle.link_meaning.specs.LinkWritten.{run_length, patch_at, patches_from, patches_of_cells}

-- no run of a place goes on with these cells
abbrev Stops : List Cell → Type 0
Stops ys = (p : Patch) (index : ℕ) → 1 ≤ index → run_length p index ys ≡ 0

run-append : (p : Patch) (index : ℕ) (xs ys : List Cell) → 1 ≤ index → Stops ys → run_length p index (xs ++ ys) ≡ run_length p index xs
run-append p index [] ys le stops = stops p index le
run-append p index (Byte b ∷ xs) ys le stops = refl
run-append p index (Part file segment offset shift other ∷ xs) ys le stops =
    ap (λ (n : ℕ). cond (eqb file p.file && eqb segment p.segment && eqb offset p.offset && int_eq shift p.shift && eqb other index) (1 + n) 0)
    (run-append p (index + 1) xs ys (omega (arith, le)) stops)

abbrev pub sized : ℕ → ℕ → ℕ → ℕ → ℤ → ℕ → Patch
sized at file segment offset shift count = record { location = at; count = count; file = file; segment = segment; offset = offset; shift = shift }

first_same : (at : ℕ) (c : Cell) (xs ys : List Cell) → Stops ys → patch_at at c (xs ++ ys) ≡ patch_at at c xs
first_same at (Byte b) xs ys stops = refl
first_same at (Part file segment offset shift index) xs ys stops =
    ap (λ (n : ℕ). cond (eqb index 0) (sized at file segment offset shift (1 + n) ∷ []) []) (run-append (sized at file segment offset shift 1) 1 xs ys (omega arith) stops)

patches-append : (at : ℕ) (xs ys : List Cell) → Stops ys → patches_from at (xs ++ ys) ≡ patches_from at xs ++ patches_from (at + length xs) ys
patches-append at [] ys stops = ap (λ (n : ℕ). patches_from n ys) (omega arith)
patches-append at (c ∷ xs) ys stops =
    let place : at + 1 + length xs ≡ at + length (c ∷ xs) = omega arith in
    ap (λ (l : List Patch). l ++ patches_from (at + 1) (xs ++ ys)) (first_same at c xs ys stops)
    ∙ ap (λ (l : List Patch). patch_at at c xs ++ l) (patches-append (at + 1) xs ys stops ∙ ap (λ (n : ℕ). patches_from (at + 1) xs ++ patches_from n ys) place)
    ∙ sym (append_assoc (patch_at at c xs) (patches_from (at + 1) xs) (patches_from (at + length (c ∷ xs)) ys))

-- ---- bytes

bytes_stop : (bytes : List ℕ) → Stops (map Byte bytes)
bytes_stop [] p index le = refl
bytes_stop (b ∷ bytes) p index le = refl

no_patches : (at : ℕ) (bytes : List ℕ) → patches_from at (map Byte bytes) ≡ []
no_patches at [] = refl
no_patches at (b ∷ bytes) = no_patches (at + 1) bytes

under_bytes : (bytes : List ℕ) → map byte_under (map Byte bytes) ≡ bytes
under_bytes [] = refl
under_bytes (b ∷ bytes) = ap (λ (l : List ℕ). b ∷ l) (under_bytes bytes)

pub bytes_under : (cells : List Cell) (bytes : List ℕ) → map byte_under (cells ++ map Byte bytes) ≡ map byte_under cells ++ bytes
bytes_under cells bytes = map-append byte_under cells (map Byte bytes) ∙ ap (λ (l : List ℕ). map byte_under cells ++ l) (under_bytes bytes)

pub bytes_patches : (cells : List Cell) (bytes : List ℕ) → patches_of_cells (cells ++ map Byte bytes) ≡ patches_of_cells cells
unfolding patches_of_cells
bytes_patches cells bytes =
    patches-append 0 cells (map Byte bytes) (bytes_stop bytes)
    ∙ ap (λ (l : List Patch). patches_from 0 cells ++ l) (no_patches (0 + length cells) bytes)
    ∙ append-nil (patches_from 0 cells)

-- ---- zeros

pub zeros_are : (n : ℕ) → zeros n ≡ map Byte (replicate n 0)
zeros_are zero = refl
zeros_are (suc n) = ap (λ (l : List Cell). Byte 0 ∷ l) (zeros_are n)

pub zeros_under : (cells : List Cell) (n : ℕ) → map byte_under (cells ++ zeros n) ≡ map byte_under cells ++ replicate n 0
zeros_under cells n = ap (λ (l : List Cell). map byte_under (cells ++ l)) (zeros_are n) ∙ bytes_under cells (replicate n 0)

pub zeros_patches : (cells : List Cell) (n : ℕ) → patches_of_cells (cells ++ zeros n) ≡ patches_of_cells cells
zeros_patches cells n = ap (λ (l : List Cell). patches_of_cells (cells ++ l)) (zeros_are n) ∙ bytes_patches cells (replicate n 0)

-- ---- places

last_fails : (a b : Bool) → b ≡ false → (a && b) ≡ false
last_fails true b e = e
last_fails false b e = refl

parts_stop : (q : Patch) (n : ℕ) → Stops (parts_from q 0 n)
parts_stop q zero p index le = refl
parts_stop q (suc n) p index le =
    ap (λ (t : Bool). cond t (1 + run_length p (index + 1) (parts_from q 1 n)) 0)
    (last_fails (eqb q.file p.file && eqb q.segment p.segment && eqb q.offset p.offset && int_eq q.shift p.shift) (eqb 0 index) (ne_eqb 0 index (λ (e : 0 ≡ index). absurd (omega (arith, e, le)))))

under_parts : (q : Patch) (index n : ℕ) → map byte_under (parts_from q index n) ≡ replicate n 0
under_parts q index zero = refl
under_parts q index (suc n) = ap (λ (l : List ℕ). 0 ∷ l) (under_parts q (index + 1) n)

pub place_under : (cells : List Cell) (count segment offset : ℕ) (shift : ℤ) → map byte_under (cells ++ parts count segment offset shift) ≡ map byte_under cells ++ replicate count 0
place_under cells count segment offset shift =
    map-append byte_under cells (parts count segment offset shift)
    ∙ ap (λ (l : List ℕ). map byte_under cells ++ l) (under_parts (sized 0 1 segment offset shift count) 0 count)

-- a place's bytes are one run
same_place : (file segment offset index : ℕ) (shift : ℤ) → (eqb file file && eqb segment segment && eqb offset offset && int_eq shift shift && eqb index index) ≡ true
same_place file segment offset index shift =
    and_from _ _ (and_from _ _ (and_from _ _ (and_from _ _ (eq-eqb file file refl) (eq-eqb segment segment refl)) (eq-eqb offset offset refl)) ((Decides-int_eq shift shift).1 refl)) (eq-eqb index index refl)

one_run : (p : Patch) (index n : ℕ) → run_length p index (parts_from p index n) ≡ n
one_run p index zero = refl
one_run p index (suc n) =
    ap (λ (t : Bool). cond t (1 + run_length p (index + 1) (parts_from p (index + 1) n)) 0) (same_place p.file p.segment p.offset index p.shift)
    ∙ omega (arith, one_run p (index + 1) n)

none_inside : (p : Patch) (at index n : ℕ) → 1 ≤ index → patches_from at (parts_from p index n) ≡ []
none_inside p at index zero le = refl
none_inside p at index (suc n) le =
    let more = parts_from p (index + 1) n in
    let first : patch_at at (Part p.file p.segment p.offset p.shift index) more ≡ [] = rw (ne_eqb index 0 (λ (e : index ≡ 0). absurd (omega (arith, e, le)))) refl in
    ap (λ (l : List Patch). l ++ patches_from (at + 1) more) first ∙ none_inside p (at + 1) (index + 1) n (omega arith)

-- they don't depend on where the patch is
moved : (at count segment offset : ℕ) (shift : ℤ) (index n : ℕ) → parts_from (sized 0 1 segment offset shift count) index n ≡ parts_from (sized at 1 segment offset shift 1) index n
moved at count segment offset shift index zero = refl
moved at count segment offset shift index (suc n) = ap (λ (l : List Cell). Part 1 segment offset shift index ∷ l) (moved at count segment offset shift (index + 1) n)

one_patch : (at count segment offset : ℕ) (shift : ℤ) → is_count count ≡ true → patches_from at (parts count segment offset shift) ≡ sized at 1 segment offset shift count ∷ []
one_patch at zero segment offset shift counts = absurd cc
one_patch at (suc n) segment offset shift counts =
    let p = sized at 1 segment offset shift 1 in
    let rest = parts_from (sized 0 1 segment offset shift (suc n)) 1 n in
    let same : rest ≡ parts_from p 1 n = moved at (suc n) segment offset shift 1 n in
    let size : 1 + run_length p 1 rest ≡ suc n = omega (arith, ap (run_length p 1) same, one_run p 1 n) in
    ap (λ (k : ℕ). sized at 1 segment offset shift k ∷ patches_from (at + 1) rest) size
    ∙ ap (λ (l : List Patch). sized at 1 segment offset shift (suc n) ∷ l) (none_inside (sized 0 1 segment offset shift (suc n)) (at + 1) 1 n (omega arith))

pub place_patches : (cells : List Cell) (count segment offset : ℕ) (shift : ℤ) → is_count count ≡ true
    → patches_of_cells (cells ++ parts count segment offset shift) ≡ patches_of_cells cells ++ sized (length cells) 1 segment offset shift count ∷ []
unfolding patches_of_cells
place_patches cells count segment offset shift counts =
    let own = parts count segment offset shift in
    let place : 0 + length cells ≡ length cells = omega arith in
    patches-append 0 cells own (parts_stop (sized 0 1 segment offset shift count) count)
    ∙ ap (λ (n : ℕ). patches_from 0 cells ++ patches_from n own) place
    ∙ ap (λ (l : List Patch). patches_from 0 cells ++ l) (one_patch (length cells) count segment offset shift counts)

-- ---- what a content holds then

pub no_cells : patches_of_cells [] ≡ []
unfolding patches_of_cells
no_cells = refl

pub grow_bytes : {A E : Type 0} → (r : Result A E) (old new : Holding) (bytes : List ℕ) → OnOk r (new.bytes ≡ old.bytes ++ bytes) → new.patches ≡ old.patches
    → OnOk r ((cells : List Cell) → HoldsCells cells old → HoldsCells (cells ++ map Byte bytes) new)
grow_bytes (Ok x) old new bytes more same = λ cells holds. record {
  bytes' = more ∙ ap (λ (l : List ℕ). l ++ bytes) holds.bytes' ∙ sym (bytes_under cells bytes);
  patches' = ap (map seen) same ∙ holds.patches' ∙ sym (bytes_patches cells bytes);
}
grow_bytes (Err e) old new bytes more same = tt

pub grow_zeros : (old new : Holding) (n : ℕ) → new.bytes ≡ old.bytes ++ replicate n 0 → new.patches ≡ old.patches → (cells : List Cell) → HoldsCells cells old → HoldsCells (cells ++ zeros n) new
grow_zeros old new n more same = λ cells holds. record {
  bytes' = more ∙ ap (λ (l : List ℕ). l ++ replicate n 0) holds.bytes' ∙ sym (zeros_under cells n);
  patches' = ap (map seen) same ∙ holds.patches' ∙ sym (zeros_patches cells n);
}

pub grow_place : {A E : Type 0} → (r : Result A E) (old new : Holding) (at count segment offset : ℕ) (shift : ℤ) → is_count count ≡ true → at ≡ length old.bytes
    → OnOk r (new.bytes ≡ old.bytes ++ replicate count 0) → OnOk r (new.patches ≡ old.patches ++ record { at = at; count = count; shift = shift; segment = segment; offset = offset } ∷ [])
    → OnOk r ((cells : List Cell) → HoldsCells cells old → HoldsCells (cells ++ parts count segment offset shift) new)
grow_place (Ok x) old new at count segment offset shift counts place more added = λ cells holds.
    let p : kept.Patch = record { at = at; count = count; shift = shift; segment = segment; offset = offset } in
    let following : at ≡ length cells = place ∙ ap length holds.bytes' ∙ length-map cells byte_under in
    record {
      bytes' = more ∙ ap (λ (l : List ℕ). l ++ replicate count 0) holds.bytes' ∙ sym (place_under cells count segment offset shift);
      patches' = ap (map seen) added
          ∙ map-append seen old.patches (p ∷ [])
          ∙ ap (λ (l : List Patch). l ++ sized at 1 segment offset shift count ∷ []) holds.patches'
          ∙ ap (λ (n : ℕ). patches_of_cells cells ++ sized n 1 segment offset shift count ∷ []) following
          ∙ sym (place_patches cells count segment offset shift counts);
    }
grow_place (Err e) old new at count segment offset shift counts place more added = tt
