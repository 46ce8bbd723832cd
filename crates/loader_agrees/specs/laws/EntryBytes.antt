-- An entry in the bytes of a table: its numbers, and its code set anew.
use Rattle.std.proofs.Common.{◌≡◌, ℕ, ◌+◌, ◌*◌, ◌^◌, ◌<◌, List, [], ◌∷◌, ◌++◌, length, drop, replicate, Option, refl, sym, ap, ◌∙◌, arith, append_assoc, append-nil}
use Rattle.std.specs.List.{flat_map}
use Rattle.std.proofs.lemmas.Grind.{flat_map-append}
use Rattle.std.proofs.lemmas.List.Concat.{flat_map-cons}
use Rattle.std.proofs.lemmas.List.{take_at, length-append, length-replicate, drop_at, drop-drop}
use Rattle.byteorder.specs.Endian.{little_bytes}
use Rattle.omf_format.specs.Number.{number_at}
use Rattle.load_meaning.specs.declared.table.Entry.{Entry}
use Rattle.load_meaning.specs.Table.{entry_start, entry_bytes, table_bytes, code_bytes, written_at}
use Rattle.load_meaning.specs.laws.TableLaws.{number_part, number_rest, number_written, length-code_bytes, length-entry_bytes}

-- an entry but for its code
abbrev head_bytes : Entry → List ℕ
head_bytes e = little_bytes 2 e.user ++ little_bytes 2 e.file ++ little_bytes 2 e.segment ++ little_bytes 4 e.offset

entry_is : (e : Entry) → entry_bytes e ≡ head_bytes e ++ code_bytes e.loaded
unfolding entry_bytes
entry_is e = refl

head_length : (e : Entry) → length (head_bytes e) ≡ 10
head_length e = refl

flat_length : (es : List Entry) → length (flat_map entry_bytes es) ≡ 14 * length es
flat_length [] = refl
flat_length (e ∷ es) = ap length (flat_map-cons entry_bytes e es)
    ∙ omega (arith, length-append (entry_bytes e) (flat_map entry_bytes es), length-entry_bytes e, flat_length es)

regroup : (r f h c g z rest : List ℕ) → ((r ++ (f ++ ((h ++ c) ++ g))) ++ z) ++ rest ≡ (r ++ f) ++ (h ++ (c ++ (g ++ (z ++ rest))))
regroup r f h c g z rest = simp append_assoc

one_more : (f h x : List ℕ) → (f ++ h) ++ x ≡ f ++ (h ++ x)
one_more f h x = append_assoc f h x

segment_in : (u f s o : List ℕ) → u ++ f ++ s ++ o ≡ (u ++ f) ++ (s ++ o)
segment_in u f s o = append_assoc (u ++ f) s o

file_part : (u f s o : List ℕ) → u ++ f ++ s ++ o ≡ u ++ (f ++ (s ++ o))
file_part u f s o = simp append_assoc

module _ (xs ys : List Entry) (rest : List ℕ) where
  abbrev up_to : List ℕ
  up_to = replicate 8 0 ++ flat_map entry_bytes xs

  abbrev following : List ℕ
  following = flat_map entry_bytes ys ++ (replicate 4 0 ++ rest)

  up_length : length up_to ≡ entry_start (length xs)
  up_length = omega (arith, length-append (replicate 8 0) (flat_map entry_bytes xs), length-replicate {A = ℕ} 8 0, flat_length xs)

  split : (e : Entry) → table_bytes (xs ++ e ∷ ys) ++ rest ≡ up_to ++ (head_bytes e ++ (code_bytes e.loaded ++ following))
  unfolding table_bytes
  split e = ap (λ (mid : List ℕ). ((replicate 8 0 ++ mid) ++ replicate 4 0) ++ rest)
      (flat_map-append entry_bytes xs (e ∷ ys) ∙ ap (λ (m : List ℕ). flat_map entry_bytes xs ++ m) (flat_map-cons entry_bytes e ys ∙ ap (λ (x : List ℕ). x ++ flat_map entry_bytes ys) (entry_is e)))
      ∙ regroup (replicate 8 0) (flat_map entry_bytes xs) (head_bytes e) (code_bytes e.loaded) (flat_map entry_bytes ys) (replicate 4 0) rest

  pub segment_is : (e : Entry) (bytes : List ℕ) → bytes ≡ table_bytes (xs ++ e ∷ ys) ++ rest → e.segment < 256 ^ 2 → number_at 2 (entry_start (length xs) + 4) bytes ≡ e.segment
  segment_is e bytes is fits =
      ap (number_at 2 (entry_start (length xs) + 4)) (is ∙ split e)
      ∙ number_part 2 4 (entry_start (length xs)) up_to (head_bytes e) (code_bytes e.loaded ++ following) up_length (omega (arith, head_length e))
      ∙ ap (number_at 2 4) (segment_in (little_bytes 2 e.user) (little_bytes 2 e.file) (little_bytes 2 e.segment) (little_bytes 4 e.offset))
      ∙ number_rest 2 0 4 (little_bytes 2 e.user ++ little_bytes 2 e.file) (little_bytes 2 e.segment ++ little_bytes 4 e.offset) refl
      ∙ number_written 2 e.segment (little_bytes 4 e.offset) fits

  pub file_is : (e : Entry) (bytes : List ℕ) → bytes ≡ table_bytes (xs ++ e ∷ ys) ++ rest → e.file < 256 ^ 2 → number_at 2 (entry_start (length xs) + 2) bytes ≡ e.file
  file_is e bytes is fits =
      ap (number_at 2 (entry_start (length xs) + 2)) (is ∙ split e)
      ∙ number_part 2 2 (entry_start (length xs)) up_to (head_bytes e) (code_bytes e.loaded ++ following) up_length (omega (arith, head_length e))
      ∙ ap (number_at 2 2) (file_part (little_bytes 2 e.user) (little_bytes 2 e.file) (little_bytes 2 e.segment) (little_bytes 4 e.offset))
      ∙ number_rest 2 0 2 (little_bytes 2 e.user) (little_bytes 2 e.file ++ (little_bytes 2 e.segment ++ little_bytes 4 e.offset)) refl
      ∙ number_written 2 e.file (little_bytes 2 e.segment ++ little_bytes 4 e.offset) fits

  pub offset_is : (e : Entry) (bytes : List ℕ) → bytes ≡ table_bytes (xs ++ e ∷ ys) ++ rest → e.offset < 256 ^ 4 → number_at 4 (entry_start (length xs) + 6) bytes ≡ e.offset
  offset_is e bytes is fits =
      ap (number_at 4 (entry_start (length xs) + 6)) (is ∙ split e)
      ∙ number_part 4 6 (entry_start (length xs)) up_to (head_bytes e) (code_bytes e.loaded ++ following) up_length (omega (arith, head_length e))
      ∙ number_rest 4 0 6 (little_bytes 2 e.user ++ little_bytes 2 e.file ++ little_bytes 2 e.segment) (little_bytes 4 e.offset) refl
      ∙ ap (number_at 4 0) (sym (append-nil (little_bytes 4 e.offset))) ∙ number_written 4 e.offset [] fits

  -- the code of the entry is another
  pub code_set : (e : Entry) (loaded : Option ℕ) (bytes : List ℕ) → bytes ≡ table_bytes (xs ++ e ∷ ys) ++ rest
      → written_at (entry_start (length xs) + 10) (code_bytes loaded) bytes ≡ table_bytes (xs ++ (record e { loaded = loaded }) ∷ ys) ++ rest
  code_set e loaded bytes is =
      let front = up_to ++ head_bytes e in
      let long : length front ≡ entry_start (length xs) + 10 = omega (arith, length-append up_to (head_bytes e), up_length, head_length e) in
      let here : bytes ≡ front ++ (code_bytes e.loaded ++ following) = is ∙ split e ∙ sym (one_more up_to (head_bytes e) (code_bytes e.loaded ++ following)) in
      ap (written_at (entry_start (length xs) + 10) (code_bytes loaded)) here
      ∙ put front (code_bytes e.loaded) (code_bytes loaded) following (entry_start (length xs) + 10) long (length-code_bytes e.loaded) (length-code_bytes loaded)
      ∙ one_more up_to (head_bytes e) (code_bytes loaded ++ following) ∙ sym (split (record e { loaded = loaded }))
    where
      put : (front was piece tail : List ℕ) (at : ℕ) → length front ≡ at → length was ≡ 4 → length piece ≡ 4 → written_at at piece (front ++ (was ++ tail)) ≡ front ++ (piece ++ tail)
      put front was piece tail at long four size =
          ap (λ (l : List ℕ). l ++ (piece ++ drop (at + length piece) (front ++ (was ++ tail)))) (take_at front (was ++ tail) at long)
          ∙ ap (λ (l : List ℕ). front ++ (piece ++ l)) (sym (drop-drop (length piece) at (front ++ (was ++ tail)))
          ∙ ap (drop (length piece)) (drop_at front (was ++ tail) at long) ∙ drop_at was tail (length piece) (omega (arith, four, size)))
