-- What is stored in the data of a written body: the low bytes of each patch, the content elsewhere, and zeros at the end that are left out.
use Rattle.std.proofs.Common.{◌≡◌, ℕ, zero, suc, ◌+◌, ◌-◌, ◌<◌, ◌≤◌, true, false, eqb, List, [], ◌∷◌, ◌++◌, length, take, drop, map, replicate, Option, Some, None, refl, sym, ap, subst, ◌∙◌, append_assoc, arith, inl, inr}
use Rattle.std.specs.Prelude.{◌⊎◌, slice_get, get_or, option_map}
use Rattle.std.specs.List.{list_all}
use Rattle.std.specs.Int.{bytes_low_first}
use Rattle.std.proofs.lemmas.Bool.{cases_Bool, cases_lt, and_parts, and_from, eqb-true}
use Rattle.std.proofs.lemmas.List.{length-append, length-take, length-replicate, length-map, take-append-drop, drop-drop}
use Rattle.std.proofs.lemmas.Option.{slice_get_past, slice_get-map, slice_get-get_or}
use Rattle.byteorder.specs.Endian.{little_bytes, little_number}
use Rattle.byteorder.specs.Numbers.{little_number-reads_back}
use Rattle.omf_format.specs.Number.{number_at}
use Rattle.load_meaning.specs.Cells.{Cell, Byte, Part, Patch, parts_from, patched_cells}
use Rattle.load_meaning.specs.laws.Steps.{with_patch, stored_as, is_zero, stored_bytes}
use Rattle.load_meaning.specs.WrittenBody.{IsWrittenPatch, AreWritten, super_form, with_stored, zeros_after, written_cells, written_data}
use Rattle.load_meaning.specs.laws.LayingLaws.{get-front, get-following, get-take, get-drop, same_list, Covers, Has, Missed, Found, look, laid, Fit, length-laid, get-missed, get-found, Apart}
use Rattle.load_meaning.specs.laws.FormLaws.{Holds, length-stored}

-- ---- the patches of a body

pub written_is : (size low : ℕ) (patches : List Patch) (p : Patch) → AreWritten size low patches → Has patches p → IsWrittenPatch size p × (low ≤ p.location)
written_is size low [] p are has = absurd has
written_is size low (q ∷ patches) p are has = elim has [
  | inl same ↦ subst (λ (r : Patch). IsWrittenPatch size r × (low ≤ r.location)) (sym same) (are.0, are.1)
  | inr more ↦
      let there = written_is size (q.location + q.count) patches p are.2 more in
      (there.0, omega (arith, there.1, are.1))
]

pub written_apart : (size low : ℕ) (patches : List Patch) → AreWritten size low patches → Apart patches
written_apart size low [] are p q k hp hq cp cq = absurd hp
written_apart size low (r ∷ patches) are p q k hp hq cp cq = elim hp [
  | inl p_is ↦ elim hq [
    | inl q_is ↦ p_is ∙ sym q_is
    | inr more ↦ absurd (clash q more cq (subst (λ (x : Patch). Covers x k) p_is cp))
  ]
  | inr more ↦ elim hq [
    | inl q_is ↦ absurd (clash p more cp (subst (λ (x : Patch). Covers x k) q_is cq))
    | inr more' ↦ written_apart size (r.location + r.count) patches are.2 p q k more more' cp cq
  ]
]
  where
    clash : (x : Patch) → Has patches x → Covers x k → Covers r k → ⊥
    clash x has cx cr = let there = written_is size (r.location + r.count) patches x are.2 has in omega (arith, there.1, cx, cr)

-- ---- cells and data as pieces

abbrev pub parts : Patch → List Cell
parts p = parts_from p 0 p.count

length-parts_from : (p : Patch) (index n : ℕ) → length (parts_from p index n) ≡ n
length-parts_from p index zero = refl
length-parts_from p index (suc n) = ap suc (length-parts_from p (index + 1) n)

pub get-parts : (p : Patch) (index n k : ℕ) → k < n → slice_get (parts_from p index n) k ≡ Some (Part p.file p.segment p.offset p.shift (index + k))
get-parts p index zero k lt = absurd (omega arith)
get-parts p index (suc n) zero lt = ap (λ (i : ℕ). some_part i) (omega arith)
  where
    some_part : ℕ → Option Cell
    some_part i = Some (Part p.file p.segment p.offset p.shift i)
get-parts p index (suc n) (suc k) lt = get-parts p (index + 1) n k (omega arith) ∙ ap (λ (i : ℕ). Some (Part p.file p.segment p.offset p.shift i)) (omega arith)

pub patched-laid : (cells : List Cell) (patches : List Patch) → patched_cells cells patches ≡ laid parts cells patches
patched-laid cells [] = refl
patched-laid cells (p ∷ patches) = patched-laid (with_patch cells p) patches

pub stored-laid : (own : ℕ) (bytes : List ℕ) (patches : List Patch) → with_stored own bytes patches ≡ laid (stored_bytes own) bytes patches
stored-laid own bytes [] = refl
stored-laid own bytes (p ∷ patches) = stored-laid own (take p.location bytes ++ stored_bytes own p ++ drop (p.location + p.count) bytes) patches

pub fit-parts : (size : ℕ) (patches : List Patch) → AreWritten size 0 patches → Fit parts size patches
fit-parts size patches are p has = let is = written_is size 0 patches p are has in (length-parts_from p 0 p.count, is.0.inside)

pub fit-stored : (own size : ℕ) (patches : List Patch) → AreWritten size 0 patches → Fit (stored_bytes own) size patches
fit-stored own size patches are p has = let is = written_is size 0 patches p are has in (length-stored own p, is.0.inside)

-- ---- a piece is whole

pub piece_at : {A : Type 0} (piece : Patch → List A) (patches : List Patch) (xs : List A) (p : Patch) → Fit piece (length xs) patches → Apart patches → Has patches p
    → take p.count (drop p.location (laid piece xs patches)) ≡ piece p
piece_at {A} piece patches xs p fit apart has = same_list (take p.count (drop p.location all)) (piece p) at
  where
    all : List A
    all = laid piece xs patches

    at : (k : ℕ) → slice_get (take p.count (drop p.location all)) k ≡ slice_get (piece p) k
    at k = elim (cases_lt k p.count) [
      | inl lt ↦
          let less : p.location + k - p.location ≡ k = omega arith in
          get-take p.count (drop p.location all) k lt
          ∙ get-drop p.location all k
          ∙ get-found piece patches xs (p.location + k) p fit (λ q hq cq. apart q p (p.location + k) hq has cq (omega arith, omega (arith, lt))) has (omega arith, omega (arith, lt))
          ∙ ap (slice_get (piece p)) less
      | inr le ↦
          slice_get_past (take p.count (drop p.location all)) k (omega (arith, le, length-take p.count (drop p.location all)))
          ∙ sym (slice_get_past (piece p) k (omega (arith, le, fit p has)))
    ]

-- the data from a patch on
from_piece : (own : ℕ) (patches : List Patch) (content : List ℕ) (p : Patch) → AreWritten (length content) 0 patches → Has patches p
    → drop p.location (with_stored own content patches) ≡ stored_bytes own p ++ drop p.count (drop p.location (with_stored own content patches))
from_piece own patches content p are has =
    let all = with_stored own content patches in
    let is = piece_at (stored_bytes own) patches content p (fit-stored own (length content) patches are) (written_apart (length content) 0 patches are) has in
    let here : take p.count (drop p.location all) ≡ stored_bytes own p = ap (λ (l : List ℕ). take p.count (drop p.location l)) (stored-laid own content patches) ∙ is in
    sym (take-append-drop p.count (drop p.location all)) ∙ ap (λ (l : List ℕ). l ++ drop p.count (drop p.location all)) here

-- the stored bytes begin with the low bytes of the offset
stored-begins : (own : ℕ) (p : Patch) → 2 ≤ p.count → (rest : List ℕ) × (stored_bytes own p ≡ little_bytes 2 p.offset ++ rest)
stored-begins own p two = by_form (super_form own p)
  where
    by_count : (n : ℕ) → 2 ≤ n → (rest : List ℕ) × (little_bytes n p.offset ≡ little_bytes 2 p.offset ++ rest)
    by_count zero le = absurd (omega arith)
    by_count (suc zero) le = absurd (omega arith)
    by_count (suc (suc n)) le = (bytes_low_first 2 n p.offset, refl)

    by_form : (o : Option ℕ) → (rest : List ℕ) × (stored_as p o ≡ little_bytes 2 p.offset ++ rest)
    by_form None = by_count p.count two
    by_form (Some form) = elim (cases_Bool (eqb form 2)) [
      | inl is ↦ (p.segment ∷ [], rw is refl)
      | inr other ↦ let more = by_count p.count two in (more.0, rw other more.1)
    ]

pub holds : (own : ℕ) (patches : List Patch) (content : List ℕ) (p : Patch) → AreWritten (length content) 0 patches → Has patches p → Holds own p (with_stored own content patches)
unfolding number_at
holds own patches content p are has =
    let all = with_stored own content patches in
    let from = from_piece own patches content p are has in
    record {
      offset = λ near two.
          let begins = stored-begins own p two in
          let whole : drop p.location all ≡ little_bytes 2 p.offset ++ (begins.0 ++ drop p.count (drop p.location all)) =
          from ∙ ap (λ (l : List ℕ). l ++ drop p.count (drop p.location all)) begins.1 ∙ append_assoc (little_bytes 2 p.offset) begins.0 (drop p.count (drop p.location all)) in
          ap (little_number 2) whole ∙ little_number-reads_back 2 p.offset (begins.0 ++ drop p.count (drop p.location all)) (omega (arith, near));
      segment = λ e.
          let is : stored_bytes own p ≡ little_bytes 2 p.offset ++ p.segment ∷ [] = ap (stored_as p) e in
          let whole : drop p.location all ≡ little_bytes 2 p.offset ++ p.segment ∷ drop p.count (drop p.location all) = from ∙ ap (λ (l : List ℕ). l ++ drop p.count (drop p.location all)) is in
          third p.location p.segment (drop p.count (drop p.location all)) all (ap (drop 2) whole);
    }
  where
    third : (at segment : ℕ) (rest bytes : List ℕ) → drop 2 (drop at bytes) ≡ segment ∷ rest → little_number 1 (drop (at + 2) bytes) ≡ segment
    third at segment rest bytes is =
        let there : drop (at + 2) bytes ≡ segment ∷ rest = sym (drop-drop 2 at bytes) ∙ is in
        ap (little_number 1) there ∙ omega arith

-- ---- zeros at the end

all_get : (cells : List Cell) (k : ℕ) (c : Cell) → list_all is_zero cells ≡ true → slice_get cells k ≡ Some c → is_zero c ≡ true
all_get [] k c all e = absurd cc
all_get (d ∷ cells) zero c all e = subst (λ (x : Cell). is_zero x ≡ true) (cell_is d c e) (and_parts (is_zero d) (list_all is_zero cells) all).0
  where
    cell_is : (x y : Cell) → Some x ≡ Some y → x ≡ y
    cell_is x y e = cc
all_get (d ∷ cells) (suc k) c all e = all_get cells k c (and_parts (is_zero d) (list_all is_zero cells) all).1 e

pub zeros-le : (cells : List Cell) → zeros_after cells ≤ length cells
zeros-le [] = omega arith
zeros-le (c ∷ cells) = elim (cases_Bool (list_all is_zero (c ∷ cells))) [
  | inl all ↦ rw all (omega arith)
  | inr not_all ↦ let rest = zeros-le cells in rw not_all (omega arith)
]

zero_cell : (cells : List Cell) (k : ℕ) (c : Cell) → length cells ≤ k + zeros_after cells → slice_get cells k ≡ Some c → is_zero c ≡ true
zero_cell [] k c past e = absurd cc
zero_cell (d ∷ cells) k c past e = elim (cases_Bool (list_all is_zero (d ∷ cells))) [
  | inl all ↦ all_get (d ∷ cells) k c all e
  | inr not_all ↦
      let tail : zeros_after (d ∷ cells) ≡ zeros_after cells = rw not_all refl in
      more k (omega (arith, past, tail)) e (λ (i : ℕ). zero_cell cells i c)
]
  where
    more : (i : ℕ) → suc (length cells) ≤ i + zeros_after cells → slice_get (d ∷ cells) i ≡ Some c
        → ((j : ℕ) → length cells ≤ j + zeros_after cells → slice_get cells j ≡ Some c → is_zero c ≡ true) → is_zero c ≡ true
    more zero past' e' again = absurd (omega (arith, zeros-le cells, past'))
    more (suc i) past' e' again = again i (omega (arith, past')) e'

get-replicate : (n k : ℕ) → k < n → slice_get {X = ℕ} (replicate n 0) k ≡ Some 0
get-replicate zero k lt = absurd (omega arith)
get-replicate (suc n) zero lt = refl
get-replicate (suc n) (suc k) lt = get-replicate n k (omega arith)

abbrev pub no_byte : Option ℕ
no_byte = None

byte_zero : (o : Option ℕ) (k : ℕ) (content : List ℕ) → o ≡ slice_get content k → k < length content → ((c : Cell) → option_map Byte o ≡ Some c → is_zero c ≡ true) → o ≡ Some 0
byte_zero None k content is lt zero' = absurd (clash (slice_get-get_or content k 0 lt))
  where
    clash : slice_get content k ≡ Some (get_or content k 0) → ⊥
    clash there = let none : no_byte ≡ Some (get_or content k 0) = is ∙ there in cc
byte_zero (Some b) k content is lt zero' = ap (λ (n : ℕ). some_byte n) (eqb-true b 0 (zero' (Byte b) refl))
  where
    some_byte : ℕ → Option ℕ
    some_byte n = Some n

-- the data are what is written and zeros up to the content's length
pub restored : (own : ℕ) (patches : List Patch) (content : List ℕ) → AreWritten (length content) 0 patches
    → with_stored own content patches ≡ written_data own content patches ++ replicate (length content - length (written_data own content patches)) 0
unfolding written_data written_cells
restored own patches content are = same_list all (take m all ++ replicate (length content - length (take m all)) 0) at
  where
    cells : List Cell
    cells = patched_cells (map Byte content) patches

    all : List ℕ
    all = with_stored own content patches

    m : ℕ
    m = length content - zeros_after cells

    len : length all ≡ length content
    len = ap length (stored-laid own content patches) ∙ length-laid (stored_bytes own) patches content (fit-stored own (length content) patches are)

    size : length (take m all) ≡ m
    size = omega (arith, length-take m all, len)

    fit-cells : Fit parts (length (map Byte content)) patches
    fit-cells p has = let there = fit-parts (length content) patches are p has in (there.0, omega (arith, there.1, length-map content (λ (n : ℕ). Byte n)))

    cells_len : length cells ≡ length content
    cells_len = ap length (patched-laid (map Byte content) patches) ∙ length-laid parts patches (map Byte content) fit-cells ∙ length-map content (λ (n : ℕ). Byte n)

    following : (k : ℕ) → m ≤ k → k < length content → slice_get (take m all ++ replicate (length content - length (take m all)) 0) k ≡ Some 0
    following k from lt =
        get-following (take m all) (replicate (length content - length (take m all)) 0) k (k - m) (omega (arith, from, size))
        ∙ get-replicate (length content - length (take m all)) (k - m) (omega (arith, from, lt, size))

    apart : Apart patches
    apart = written_apart (length content) 0 patches are

    at_zero : (k : ℕ) → m ≤ k → k < length content → Found patches k ⊎ Missed patches k → slice_get all k ≡ Some 0
    at_zero k from lt (inl found) =
        let p = found.0 in
        let there : slice_get cells k ≡ Some (Part p.file p.segment p.offset p.shift (0 + (k - p.location))) =
        ap (λ (l : List Cell). slice_get l k) (patched-laid (map Byte content) patches)
        ∙ get-found parts patches (map Byte content) k p fit-cells (λ q has c. apart q p k has found.1 c found.2) found.1 found.2
        ∙ get-parts p 0 p.count (k - p.location) (omega (arith, found.2)) in
        let clash : false ≡ true = zero_cell cells k (Part p.file p.segment p.offset p.shift (0 + (k - p.location))) (omega (arith, from, cells_len)) there in
        absurd cc
    at_zero k from lt (inr none) =
        let content_at : slice_get all k ≡ slice_get content k =
        ap (λ (l : List ℕ). slice_get l k) (stored-laid own content patches) ∙ get-missed (stored_bytes own) patches content k (fit-stored own (length content) patches are) none in
        let cell_at : slice_get cells k ≡ option_map Byte (slice_get content k) =
        ap (λ (l : List Cell). slice_get l k) (patched-laid (map Byte content) patches) ∙ get-missed parts patches (map Byte content) k fit-cells none ∙ slice_get-map Byte content k in
        content_at ∙ byte_zero (slice_get content k) k content refl lt (λ c e. zero_cell cells k c (omega (arith, from, cells_len)) (cell_at ∙ e))

    at : (k : ℕ) → slice_get all k ≡ slice_get (take m all ++ replicate (length content - length (take m all)) 0) k
    at k = elim (cases_lt k m) [
      | inl lt ↦ sym (get-front (take m all) (replicate (length content - length (take m all)) 0) k (omega (arith, lt, size)) ∙ get-take m all k lt)
      | inr from ↦ elim (cases_lt k (length content)) [
        | inl lt ↦ at_zero k from lt (look patches k) ∙ sym (following k from lt)
        | inr past ↦
            slice_get_past all k (omega (arith, past, len))
            ∙ sym (slice_get_past (take m all ++ replicate (length content - length (take m all)) 0) k (omega (arith, past, length-append (take m all) (replicate (length content - length (take m all)) 0), length-replicate {A = ℕ} (length content - length (take m all)) 0, size)))
      ]
    ]

pub length-data : (own : ℕ) (patches : List Patch) (content : List ℕ) → AreWritten (length content) 0 patches → length (with_stored own content patches) ≡ length content
length-data own patches content are = ap length (stored-laid own content patches) ∙ length-laid (stored_bytes own) patches content (fit-stored own (length content) patches are)

pub data-missed : (own : ℕ) (patches : List Patch) (content : List ℕ) (k : ℕ) → AreWritten (length content) 0 patches → Missed patches k → slice_get (with_stored own content patches) k ≡ slice_get content k
data-missed own patches content k are none = ap (λ (l : List ℕ). slice_get l k) (stored-laid own content patches) ∙ get-missed (stored_bytes own) patches content k (fit-stored own (length content) patches are) none

pub fit-cells : (patches : List Patch) (content : List ℕ) → AreWritten (length content) 0 patches → Fit parts (length (map Byte content)) patches
fit-cells patches content are p has = let there = fit-parts (length content) patches are p has in (there.0, omega (arith, there.1, length-map content (λ (n : ℕ). Byte n)))

-- ---- how much is kept

all_zero : (cells : List Cell) → ((k : ℕ) (c : Cell) → slice_get cells k ≡ Some c → is_zero c ≡ true) → list_all is_zero cells ≡ true
all_zero [] each = refl
all_zero (c ∷ cells) each = and_from (is_zero c) (list_all is_zero cells) (each 0 c refl) (all_zero cells (λ k d e. each (suc k) d e))

-- the cells from a place on are zeros
zeros_reach : (cells : List Cell) (n : ℕ) → ((k : ℕ) (c : Cell) → n ≤ k → slice_get cells k ≡ Some c → is_zero c ≡ true) → length cells ≤ n + zeros_after cells
zeros_reach [] n each = omega arith
zeros_reach (c ∷ cells) zero each =
    let all = all_zero (c ∷ cells) (λ k d e. each k d (omega arith) e) in
    let is : zeros_after (c ∷ cells) ≡ length (c ∷ cells) = rw all refl in
    omega (arith, is)
zeros_reach (c ∷ cells) (suc n) each = elim (cases_Bool (list_all is_zero (c ∷ cells))) [
  | inl all ↦ let is : zeros_after (c ∷ cells) ≡ length (c ∷ cells) = rw all refl in omega (arith, is)
  | inr not_all ↦
      let is : zeros_after (c ∷ cells) ≡ zeros_after cells = rw not_all refl in
      let rest = zeros_reach cells n (λ k d le e. each (suc k) d (omega (arith, le)) e) in
      omega (arith, is, rest)
]

abbrev pub HasPart : List Cell → ℕ → Type 0
HasPart cells k = (c : Cell) × (slice_get cells k ≡ Some c) × (is_zero c ≡ false)

-- up to the last that isn't
pub zeros_exact : (cells : List Cell) (n : ℕ) → ((k : ℕ) (c : Cell) → n ≤ k → slice_get cells k ≡ Some c → is_zero c ≡ true) → (n ≡ 0) ⊎ ((1 ≤ n) × HasPart cells (n - 1))
    → n ≤ length cells → n ≡ length cells - zeros_after cells
zeros_exact cells n each (inl none) le = omega (arith, zeros_reach cells n each, zeros-le cells, none)
zeros_exact cells n each (inr some) le =
    omega (arith, zeros_reach cells n each, not_more, zeros-le cells, some.0)
  where
    not_more : n - 1 + zeros_after cells < length cells
    not_more = elim (cases_lt (n - 1 + zeros_after cells) (length cells)) [
      | inl lt ↦ lt
      | inr past ↦ let clash : false ≡ true = sym some.1.2 ∙ zero_cell cells (n - 1) some.1.0 past some.1.1 in absurd cc
    ]

pub cells_size : (content : List ℕ) (patches : List Patch) → AreWritten (length content) 0 patches → length (patched_cells (map Byte content) patches) ≡ length content
cells_size content patches are = ap length (patched-laid (map Byte content) patches) ∙ length-laid parts patches (map Byte content) (fit-cells patches content are) ∙ length-map content (λ (n : ℕ). Byte n)

-- what is left after the data
pub zeros_left : (own : ℕ) (content : List ℕ) (patches : List Patch) → AreWritten (length content) 0 patches → length content - length (written_data own content patches) ≡ zeros_after (written_cells content patches)
unfolding written_data written_cells
zeros_left own content patches are =
    let cells = patched_cells (map Byte content) patches in
    let all = with_stored own content patches in
    omega (arith, length-take (length content - zeros_after cells) all, length-data own patches content are, zeros-le cells, cells_size content patches are)
