-- Parts of a list, and lists with others written over them.
use Rattle.std.proofs.Common.{◌≡◌, ◌⊎◌, inl, inr, ℕ, true, false, cond, ◌&&◌, ◌+◌, ◌-◌, ◌<◌, ◌≤◌, nat_le, nat_lt, List, ◌++◌, take, drop, length, get_or, slice_index, length-append, length-drop, arith, sym, ap, ◌∙◌}
use Rattle.std.proofs.Math.Seq.{get_or-append_right}
use Rattle.std.proofs.lemmas.List.{get_or-take, get_or-drop, get_or_append_left, length-take, same_lists}
use Rattle.std.proofs.lemmas.List.FromFn.{length-map-range_with_len, get_or-map-range_with_len}
use Rattle.std.proofs.lemmas.Grind.{get_or_default_zero}
use Rattle.std.proofs.lemmas.Bool.{cases_lt}
use Rattle.std.proofs.lemmas.Bool.Decides.{nat_tests}
use Rattle.iigs_memory.specs.Overlay.{written_over}

-- a number of elements from a place on
abbrev pub part : ℕ → ℕ → List ℕ → List ℕ
part start size xs = take size (drop start xs)

-- the list with others written over it from a place on
abbrev pub overlay : ℕ → List ℕ → List ℕ → List ℕ
overlay start ws xs = take start xs ++ (ws ++ drop (length ws) (drop start xs))

pub length-part : (start size : ℕ) (xs : List ℕ) → start + size ≤ length xs → length (part start size xs) ≡ size
length-part start size xs le = omega (arith, length-take size (drop start xs), length-drop start xs)

pub get-part : (start size : ℕ) (xs : List ℕ) (k d : ℕ) → k < size → get_or (part start size xs) k d ≡ get_or xs (start + k) d
get-part start size xs k d less = rw (get_or-take size (drop start xs) k d less) (get_or-drop start xs k d)

pub length-overlay : (start : ℕ) (ws xs : List ℕ) → start ≤ length xs → length xs ≤ length (overlay start ws xs)
length-overlay start ws xs le = omega (arith, length-append (take start xs) (ws ++ drop (length ws) (drop start xs)), length-append ws (drop (length ws) (drop start xs)), length-take start xs, length-drop (length ws) (drop start xs), length-drop start xs)

pub get-before : (start : ℕ) (ws xs : List ℕ) (k d : ℕ) → start ≤ length xs → k < start → get_or (overlay start ws xs) k d ≡ get_or xs k d
get-before start ws xs k d le less =
    let inside : k < length (take start xs) = omega (arith, length-take start xs) in
    rw (get_or_append_left (take start xs) (ws ++ drop (length ws) (drop start xs)) d k inside) (get_or-take start xs k d less)

pub get-within : (start : ℕ) (ws xs : List ℕ) (k d : ℕ) → start ≤ length xs → start ≤ k → k < start + length ws → get_or (overlay start ws xs) k d ≡ get_or ws (k - start) d
get-within start ws xs k d le from to =
    let front : length (take start xs) ≡ start = omega (arith, length-take start xs) in
    let inside : k - start < length ws = omega arith in
    get_or-append_right (take start xs) (ws ++ drop (length ws) (drop start xs)) k d (omega arith)
    ∙ rw front (get_or_append_left ws (drop (length ws) (drop start xs)) d (k - start) inside)

pub get-after : (start : ℕ) (ws xs : List ℕ) (k d : ℕ) → start ≤ length xs → start + length ws ≤ k → get_or (overlay start ws xs) k d ≡ get_or xs k d
get-after start ws xs k d le past =
    let front : length (take start xs) ≡ start = omega (arith, length-take start xs) in
    let place : start + (length ws + (k - start - length ws)) ≡ k = omega arith in
    get_or-append_right (take start xs) (ws ++ drop (length ws) (drop start xs)) k d (omega arith)
    ∙ rw front (get_or-append_right ws (drop (length ws) (drop start xs)) (k - start) d (omega arith))
    ∙ get_or-drop (length ws) (drop start xs) (k - start - length ws) d
    ∙ get_or-drop start xs (length ws + (k - start - length ws)) d
    ∙ ap (λ i. get_or xs i d) place

pub length-written_over : (start : ℕ) (bytes : List ℕ) (other : ℕ) (ws : List ℕ) → length (written_over start bytes other ws) ≡ length bytes
length-written_over start bytes other ws = length-map-range_with_len (λ i. cond (nat_le other (start + i) && nat_lt (start + i) (other + length ws))
    (slice_index ws (start + i - other)) (slice_index bytes i)) 0 (length bytes)

pub get-written_over : (start : ℕ) (bytes : List ℕ) (other : ℕ) (ws : List ℕ) (k d : ℕ) → k < length bytes
    → get_or (written_over start bytes other ws) k d ≡ cond (nat_le other (start + k) && nat_lt (start + k) (other + length ws))
    (slice_index ws (start + k - other)) (slice_index bytes k)
get-written_over start bytes other ws k d less = get_or-map-range_with_len (λ i. cond (nat_le other (start + i) && nat_lt (start + i) (other + length ws))
    (slice_index ws (start + i - other)) (slice_index bytes i)) 0 (length bytes) k k d less (omega arith)

-- a part of a list with others written over it is the part with them written over it
pub part-overlay : (start size other : ℕ) (ws xs : List ℕ) → start + size ≤ length xs → other ≤ length xs
    → part start size (overlay other ws xs) ≡ written_over start (part start size xs) other ws
part-overlay start size other ws xs inside le = same_lists (part start size (overlay other ws xs)) (written_over start (part start size xs) other ws)
    (length-part start size (overlay other ws xs) (omega (arith, length-overlay other ws xs le)) ∙ sym (length-written_over start (part start size xs) other ws ∙ length-part start size xs inside))
    (λ k d less. let short : k < size = omega (arith, length-part start size (overlay other ws xs) (omega (arith, length-overlay other ws xs le))) in
    get-part start size (overlay other ws xs) k d short
    ∙ at k d short
    ∙ sym (get-written_over start (part start size xs) other ws k d (omega (arith, length-part start size xs inside))))
  where
    at : (k d : ℕ) → k < size → get_or (overlay other ws xs) (start + k) d ≡ cond (nat_le other (start + k) && nat_lt (start + k) (other + length ws))
        (slice_index ws (start + k - other)) (slice_index (part start size xs) k)
    at k d short = elim (cases_lt (start + k) other) [
      | inl lt ↦
          let no : nat_le other (start + k) ≡ false = grind (arith, nat_tests) in
          rw no (get-before other ws xs (start + k) d le lt ∙ get_or_default_zero xs (start + k) d (omega arith) ∙ sym (get-part start size xs k 0 short))
      | inr ge ↦ elim (cases_lt (start + k) (other + length ws)) [
        | inl lt ↦
            let yes : nat_le other (start + k) ≡ true = grind (arith, nat_tests) in
            let too : nat_lt (start + k) (other + length ws) ≡ true = grind (arith, nat_tests) in
            rw (yes, too) (get-within other ws xs (start + k) d le ge lt ∙ get_or_default_zero ws (start + k - other) d (omega arith))
        | inr ge' ↦
            let yes : nat_le other (start + k) ≡ true = grind (arith, nat_tests) in
            let no : nat_lt (start + k) (other + length ws) ≡ false = grind (arith, nat_tests) in
            rw (yes, no) (get-after other ws xs (start + k) d le ge' ∙ get_or_default_zero xs (start + k) d (omega arith) ∙ sym (get-part start size xs k 0 short))
      ]
    ]

-- what is written beside a part leaves it
pub written_beside : (start : ℕ) (bytes : List ℕ) (other : ℕ) (ws : List ℕ) → (start + length bytes ≤ other) ⊎ (other + length ws ≤ start)
    → written_over start bytes other ws ≡ bytes
written_beside start bytes other ws beside = same_lists (written_over start bytes other ws) bytes (length-written_over start bytes other ws)
    (λ k d less. let short : k < length bytes = omega (arith, length-written_over start bytes other ws) in
    get-written_over start bytes other ws k d short ∙ at k d short)
  where
    at : (k d : ℕ) → k < length bytes → cond (nat_le other (start + k) && nat_lt (start + k) (other + length ws))
        (slice_index ws (start + k - other)) (slice_index bytes k) ≡ get_or bytes k d
    at k d short = elim beside [
      | inl before ↦
          let no : nat_le other (start + k) ≡ false = grind (arith, nat_tests) in
          rw no (sym (get_or_default_zero bytes k d short))
      | inr after ↦ elim (cases_lt (start + k) other) [
        | inl lt ↦
            let no : nat_le other (start + k) ≡ false = grind (arith, nat_tests) in
            rw no (sym (get_or_default_zero bytes k d short))
        | inr ge ↦
            let yes : nat_le other (start + k) ≡ true = grind (arith, nat_tests) in
            let no : nat_lt (start + k) (other + length ws) ≡ false = grind (arith, nat_tests) in
            rw (yes, no) (sym (get_or_default_zero bytes k d short))
      ]
    ]

-- as many as the part, written from its start on, take its place
pub written_whole : (start : ℕ) (bytes ws : List ℕ) → length ws ≡ length bytes → written_over start bytes start ws ≡ ws
written_whole start bytes ws same = same_lists (written_over start bytes start ws) ws (length-written_over start bytes start ws ∙ sym same)
    (λ k d less. let short : k < length bytes = omega (arith, length-written_over start bytes start ws) in
    get-written_over start bytes start ws k d short ∙ at k d short)
  where
    at : (k d : ℕ) → k < length bytes → cond (nat_le start (start + k) && nat_lt (start + k) (start + length ws))
        (slice_index ws (start + k - start)) (slice_index bytes k) ≡ get_or ws k d
    at k d short =
        let yes : nat_le start (start + k) ≡ true = grind (arith, nat_tests) in
        let too : nat_lt (start + k) (start + length ws) ≡ true = grind (arith, nat_tests) in
        let place : start + k - start ≡ k = omega arith in
        rw (yes, too, place) (sym (get_or_default_zero ws k d (omega arith)))
