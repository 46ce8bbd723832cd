-- Zeros after a content: the body is the same without them, and they are after its data in memory.
use Rattle.std.proofs.Common.{◌≡◌, ℕ, zero, suc, ◌+◌, ◌-◌, ◌≤◌, Bool, true, false, List, [], ◌∷◌, ◌++◌, length, map, take, drop, replicate, Option, Some, Result, Ok, Err, refl, sym, ap, subst, ◌∙◌, append-nil, append_assoc, arith}
use Rattle.std.specs.Prelude.{◌&&◌, OnOk, OnErr}
use Rattle.std.specs.List.{list_all, flat_map}
use Rattle.std.proofs.lemmas.List.{take-append-le, drop-append-le, length-append, length-replicate, replicate-append-replicate, length-take, length-drop, map-append, length-map}
use Rattle.std.proofs.lemmas.List.Folds.{list_all-append}
use Rattle.omf_format.specs.Field.{written_layout}
use Rattle.omf_format.specs.Record.{spelling}
use Rattle.load_meaning.specs.Cells.{Cell, Byte, Patch, parts_from, patched_cells}
use Rattle.load_meaning.specs.WrittenBody.{AreWritten, with_stored, data_records, lone_record, supers_from, zeros_after, written_cells, written_data, body_records, body_text}
use Rattle.load_meaning.specs.laws.Steps.{is_zero, patches_stored_alone, stored_bytes}
use Rattle.load_meaning.specs.laws.FormLaws.{length-stored}
use Rattle.load_meaning.specs.laws.StoredLaws.{length-data, cells_size, zeros-le}
use Rattle.load_writer.specs.declared.written.Patch as kept
use Rattle.load_writer.specs.WrittenParts.{seen}
use Rattle.link_content.specs.Holding.{Holding, AreInside, or_borrowed, or_before, last_of}
use Rattle.link_content.proofs.ContentBytes.{last_two}

-- ---- one patch

module _ {A : Type 0} (at count : ℕ) (middle : List A) where
  over_more : (xs following : List A) → at + count ≤ length xs → take at (xs ++ following) ++ middle ++ drop (at + count) (xs ++ following) ≡ (take at xs ++ middle ++ drop (at + count) xs) ++ following
  over_more xs following inside =
      let front = take-append-le at xs following (omega (arith, inside)) in
      let rest = drop-append-le (at + count) xs following inside in
      ap (λ (l : List A). l ++ middle ++ drop (at + count) (xs ++ following)) front
      ∙ ap (λ (l : List A). take at xs ++ middle ++ l) rest
      ∙ sym (append_assoc (take at xs ++ middle) (drop (at + count) xs) following)

  over_size : (xs : List A) → length middle ≡ count → at + count ≤ length xs → length (take at xs ++ middle ++ drop (at + count) xs) ≡ length xs
  over_size xs same inside =
      omega (
        arith,
        same,
        inside,
        length-append (take at xs ++ middle) (drop (at + count) xs),
        length-append (take at xs) middle,
        length-take at xs,
        length-drop (at + count) xs,
      )

-- ---- all patches

stored_more : (own low size : ℕ) (xs following : List ℕ) (patches : List Patch) → length xs ≡ size → AreWritten size low patches → with_stored own (xs ++ following) patches ≡ with_stored own xs patches ++ following
stored_more own low size xs following [] long are = refl
stored_more own low size xs following (p ∷ patches) long are =
    let inside : p.location + p.count ≤ length xs = omega (arith, long, are.0.inside) in
    ap (λ (l : List ℕ). with_stored own l patches) (over_more p.location p.count (stored_bytes own p) xs following inside)
    ∙ stored_more own (p.location + p.count) size (take p.location xs ++ stored_bytes own p ++ drop (p.location + p.count) xs) following patches (over_size p.location p.count (stored_bytes own p) xs (length-stored own p) inside ∙ long) are.2

length-parts : (p : Patch) (index n : ℕ) → length (parts_from p index n) ≡ n
length-parts p index zero = refl
length-parts p index (suc n) = ap suc (length-parts p (index + 1) n)

cells_more : (low size : ℕ) (xs following : List Cell) (patches : List Patch) → length xs ≡ size → AreWritten size low patches → patched_cells (xs ++ following) patches ≡ patched_cells xs patches ++ following
cells_more low size xs following [] long are = refl
cells_more low size xs following (p ∷ patches) long are =
    let inside : p.location + p.count ≤ length xs = omega (arith, long, are.0.inside) in
    ap (λ (l : List Cell). patched_cells l patches) (over_more p.location p.count (parts_from p 0 p.count) xs following inside)
    ∙ cells_more (p.location + p.count) size (take p.location xs ++ parts_from p 0 p.count ++ drop (p.location + p.count) xs) following patches (over_size p.location p.count (parts_from p 0 p.count) xs (length-parts p 0 p.count) inside ∙ long) are.2

-- ---- zeros

bytes_zero : (n : ℕ) → map Byte (replicate n 0) ≡ replicate n (Byte 0)
bytes_zero zero = refl
bytes_zero (suc n) = ap (λ (l : List Cell). Byte 0 ∷ l) (bytes_zero n)

all_zero : (n : ℕ) → list_all is_zero (replicate n (Byte 0)) ≡ true
all_zero zero = refl
all_zero (suc n) = all_zero n

zeros_alone : (n : ℕ) → zeros_after (replicate n (Byte 0)) ≡ n
zeros_alone zero = refl
zeros_alone (suc n) = rw (all_zero n) (ap suc (length-replicate n (Byte 0)))

zeros_whole : (c : Cell) (cells : List Cell) → list_all is_zero (c ∷ cells) ≡ true → zeros_after (c ∷ cells) ≡ length (c ∷ cells)
zeros_whole c cells all = rw all refl

zeros_rest : (c : Cell) (cells : List Cell) → list_all is_zero (c ∷ cells) ≡ false → zeros_after (c ∷ cells) ≡ zeros_after cells
zeros_rest c cells not_all = rw not_all refl

zeros_more : (cells : List Cell) (n : ℕ) → zeros_after (cells ++ replicate n (Byte 0)) ≡ zeros_after cells + n
zeros_more [] n = let one = zeros_alone n in omega (arith, one)
zeros_more (c ∷ cells) n = go (list_all is_zero (c ∷ cells)) refl (zeros_more cells n)
  where
    whole : list_all is_zero (c ∷ cells ++ replicate n (Byte 0)) ≡ (list_all is_zero (c ∷ cells) && true)
    whole = list_all-append is_zero (c ∷ cells) (replicate n (Byte 0)) ∙ ap (λ (b : Bool). list_all is_zero (c ∷ cells) && b) (all_zero n)

    go : (b : Bool) → list_all is_zero (c ∷ cells) ≡ b → zeros_after (cells ++ replicate n (Byte 0)) ≡ zeros_after cells + n
        → zeros_after (c ∷ cells ++ replicate n (Byte 0)) ≡ zeros_after (c ∷ cells) + n
    go true is rest =
        let all : list_all is_zero (c ∷ cells ++ replicate n (Byte 0)) ≡ true = whole ∙ ap (λ (b : Bool). b && true) is in
        omega (arith, zeros_whole c (cells ++ replicate n (Byte 0)) all, zeros_whole c cells is, length-append (c ∷ cells) (replicate n (Byte 0)), length-replicate n (Byte 0))
    go false is rest =
        let some : list_all is_zero (c ∷ cells ++ replicate n (Byte 0)) ≡ false = whole ∙ ap (λ (b : Bool). b && true) is in
        omega (arith, zeros_rest c (cells ++ replicate n (Byte 0)) some, zeros_rest c cells is, rest)

-- ---- bodies

-- the patches of a content without the zeros after it
pub without_zeros : (size less low : ℕ) (patches : List kept.Patch) → AreWritten size low (map seen patches) → AreInside less patches → AreWritten less low (map seen patches)
without_zeros size less low [] are inside = tt
without_zeros size less low (p ∷ patches) are inside =
    (record { count' = are.0.count'; shift' = are.0.shift'; file' = are.0.file'; segment' = are.0.segment'; offset' = are.0.offset'; inside = inside.0 }, are.1, without_zeros size less (p.at + p.count) patches are.2 inside.1)

module _ (own n : ℕ) (front : List ℕ) (patches : List Patch) (are : AreWritten (length front) 0 patches) where
  written_more : written_cells (front ++ replicate n 0) patches ≡ written_cells front patches ++ replicate n (Byte 0)
  unfolding written_cells
  written_more =
      ap (λ (l : List Cell). patched_cells l patches) (map-append Byte front (replicate n 0) ∙ ap (λ (l : List Cell). map Byte front ++ l) (bytes_zero n))
      ∙ cells_more 0 (length front) (map Byte front) (replicate n (Byte 0)) patches (length-map front (λ (b : ℕ). Byte b)) are

  pub after_more : zeros_after (written_cells (front ++ replicate n 0) patches) ≡ zeros_after (written_cells front patches) + n
  after_more = ap zeros_after written_more ∙ zeros_more (written_cells front patches) n

  cells_long : length (written_cells front patches) ≡ length front
  unfolding written_cells
  cells_long = cells_size front patches are

  pub after_within : zeros_after (written_cells front patches) ≤ length front
  after_within = omega (arith, zeros-le (written_cells front patches), cells_long)

  data_same : written_data own (front ++ replicate n 0) patches ≡ written_data own front patches
  unfolding written_data
  data_same =
      let size : ℕ = length front - zeros_after (written_cells front patches) in
      let count : length (front ++ replicate n 0) - zeros_after (written_cells (front ++ replicate n 0) patches) ≡ size =
      omega (arith, after_more, after_within, length-append front (replicate n 0), length-replicate {A = ℕ} n 0) in
      ap (λ (k : ℕ). take k (with_stored own (front ++ replicate n 0) patches)) count
      ∙ ap (take size) (stored_more own 0 (length front) front (replicate n 0) patches refl are)
      ∙ take-append-le size (with_stored own front patches) (replicate n 0) (omega (arith, length-data own patches front are))

  pub body_same : body_text own (front ++ replicate n 0) patches ≡ body_text own front patches
  unfolding body_text body_records
  body_same = ap (λ (bytes : List ℕ). flat_map (spelling written_layout) (data_records bytes ++ (map (lone_record own) (patches_stored_alone own patches) ++ supers_from own patches 0 38))) data_same

-- ---- a content and the zeros after it

-- what the body of a content is, by its bytes without the zeros after them
pub record IsFollowing (own n : ℕ) (bytes : List ℕ) (content : Holding) (patches : List Patch) : Type 0 where
  pub are : AreWritten (length bytes) 0 patches
  pub body : body_text own content.bytes patches ≡ body_text own bytes patches
  pub zeros : zeros_after (written_cells content.bytes patches) ≡ zeros_after (written_cells bytes patches) + n
  pub within : zeros_after (written_cells bytes patches) + n ≤ length content.bytes

pub after_by : (own n : ℕ) (bytes : List ℕ) (content : Holding) (patches : List Patch) → content.bytes ≡ bytes ++ replicate n 0 → AreWritten (length bytes) 0 patches → IsFollowing own n bytes content patches
after_by own n bytes content patches same are = record {
  are = are;
  body = ap (λ (b : List ℕ). body_text own b patches) same ∙ body_same own n bytes patches are;
  zeros = ap (λ (b : List ℕ). zeros_after (written_cells b patches)) same ∙ after_more own n bytes patches are;
  within = omega (arith, ap length same, after_within own n bytes patches are, length-append bytes (replicate n 0), length-replicate {A = ℕ} n 0);
}

pub after_own : (own n : ℕ) (bytes : List ℕ) (content : Holding) → content.bytes ≡ bytes ++ replicate n 0 → AreInside (length bytes) content.patches → AreWritten (length content.bytes) 0 (map seen content.patches)
    → IsFollowing own n bytes content (map seen content.patches)
after_own own n bytes content same inside are = after_by own n bytes content (map seen content.patches) same (without_zeros (length content.bytes) (length bytes) 0 content.patches are inside)

-- ---- how a content is kept

inside_more : (less more : ℕ) (patches : List kept.Patch) → less ≤ more → AreInside less patches → AreInside more patches
inside_more less more [] le inside = tt
inside_more less more (p ∷ patches) le inside = (omega (arith, le, inside.0), inside_more less more patches le inside.1)

inside_snoc : (size : ℕ) (patches : List kept.Patch) (p : kept.Patch) → AreInside size patches → p.at + p.count ≤ size → AreInside size (patches ++ p ∷ [])
inside_snoc size [] p inside is = (is, tt)
inside_snoc size (q ∷ patches) p inside is = (inside.0, inside_snoc size patches p inside.1 is)

or_borrowed_some : (own borrowed : List ℕ) → 1 ≤ length own → or_borrowed own borrowed ≡ own
or_borrowed_some [] borrowed some = absurd (omega (arith, some))
or_borrowed_some (b ∷ own) borrowed some = refl

or_borrowed_size : (own borrowed : List ℕ) → length own ≤ length (or_borrowed own borrowed)
or_borrowed_size [] borrowed = omega arith
or_borrowed_size (b ∷ own) borrowed = omega arith

-- zeros more
pub zeros_longer : (front : List ℕ) (n count : ℕ) (bytes : List ℕ) → front ++ replicate n 0 ≡ bytes → front ++ replicate (n + count) 0 ≡ bytes ++ replicate count 0
zeros_longer front n count bytes same =
    ap (λ (l : List ℕ). front ++ l) (sym (replicate-append-replicate n count 0)) ∙ sym (append_assoc front (replicate n 0) (replicate count 0)) ∙ ap (λ (l : List ℕ). l ++ replicate count 0) same

-- bytes of one's own that end with at least one zero
pub settled_bytes : (own new borrowed : List ℕ) (n count : ℕ) (bytes : List ℕ) → new ≡ or_borrowed own borrowed ++ replicate (n + count) 0 → 1 ≤ count → or_borrowed own borrowed ++ replicate n 0 ≡ bytes
    → or_borrowed new borrowed ++ [] ≡ bytes ++ replicate count 0
settled_bytes own new borrowed n count bytes is some same =
    let long : 1 ≤ length new = omega (arith, some, ap length is, length-append (or_borrowed own borrowed) (replicate (n + count) 0), length-replicate {A = ℕ} (n + count) 0) in
    append-nil (or_borrowed new borrowed) ∙ or_borrowed_some new borrowed long ∙ is ∙ zeros_longer (or_borrowed own borrowed) n count bytes same

pub settled_some : (own new borrowed : List ℕ) (n count : ℕ) → new ≡ or_borrowed own borrowed ++ replicate (n + count) 0 → 1 ≤ count → new ≡ [] → ⊥
settled_some own new borrowed n count is some none =
    omega (arith, some, ap length is, ap length none, length-append (or_borrowed own borrowed) (replicate (n + count) 0), length-replicate {A = ℕ} (n + count) 0)

pub on_ok : {A E P : Type 0} (r : Result A E) → P → OnOk r P
on_ok (Ok x) is = is
on_ok (Err e) is = tt

-- the patches of settled bytes with one more, or without where there was no memory
pub settled_patches : {A E : Type 0} (own new borrowed : List ℕ) (n count : ℕ) (bytes : List ℕ) (r : Result A E) (old after : List kept.Patch) (p : kept.Patch) → new ≡ or_borrowed own borrowed ++ replicate (n + count) 0
    → or_borrowed own borrowed ++ replicate n 0 ≡ bytes → p.at + p.count ≤ length bytes + count → AreInside (length own) old
    → OnOk r (after ≡ old ++ p ∷ []) → OnErr r (after ≡ old) → AreInside (length new) after
settled_patches {A = A} {E = E} own new borrowed n count bytes r old after p is same inside olds = go r
  where
    size : length new ≡ length bytes + count
    size = ap length is ∙ ap length (zeros_longer (or_borrowed own borrowed) n count bytes same) ∙ length-append bytes (replicate count 0) ∙ ap (λ (k : ℕ). length bytes + k) (length-replicate {A = ℕ} count 0)

    longer : length own ≤ length new
    longer = omega (arith, or_borrowed_size own borrowed, ap length is, length-append (or_borrowed own borrowed) (replicate (n + count) 0))

    go : (r : Result A E) → OnOk r (after ≡ old ++ p ∷ []) → OnErr r (after ≡ old) → AreInside (length new) after
    go (Ok x) added same = subst (AreInside (length new)) (sym added) (inside_snoc (length new) old p (inside_more (length own) (length new) old longer olds) (omega (arith, inside, size)))
    go (Err e) added same = subst (AreInside (length new)) (sym same) (inside_more (length own) (length new) old longer olds)

-- the last byte where zeros follow
last_zeros : (n : ℕ) → last_of (replicate (suc n) 0) ≡ Some 0
last_zeros zero = refl
last_zeros (suc n) = last_zeros n

pub last_zero : (front : List ℕ) (n : ℕ) (bytes : List ℕ) → front ++ replicate n 0 ≡ bytes → 1 ≤ n → Some 0 ≡ last_of bytes
last_zero front zero bytes same some = absurd (omega (arith, some))
last_zero front (suc n) bytes same some = sym (ap (λ (o : Option ℕ). or_before o (last_of front)) (last_zeros n)) ∙ sym (last_two front (replicate (suc n) 0)) ∙ ap last_of same
