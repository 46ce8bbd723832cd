-- Bytes that are in pieces, one after another.
use Rattle.std.proofs.Common.{◌≡◌, ℕ, zero, suc, ◌+◌, ◌-◌, ◌<◌, ◌≤◌, List, [], ◌∷◌, ◌++◌, length, take, replicate, Some, refl, sym, ap, subst, ◌∙◌, append_assoc, arith, inl, inr}
use Rattle.std.specs.Prelude.{◌⊎◌, slice_get, min}
use Rattle.std.proofs.lemmas.Bool.{cases_lt}
use Rattle.std.proofs.lemmas.List.{length-append, length-take, length-replicate}
use Rattle.std.proofs.lemmas.Option.{slice_get_past}
use Rattle.load_meaning.specs.laws.LayingLaws.{get-front, get-following, get-take, same_list}
use Rattle.load_content.specs.declared.pieces.BytePiece.{BytePiece}
use Rattle.load_content.specs.Content.{ArePieces, IsAt}
use Rattle.load_content.proofs.Splits.{within}

get-zeros : (n k : ℕ) → k < n → slice_get {X = ℕ} (replicate n 0) k ≡ Some 0
get-zeros zero k lt = absurd (omega arith)
get-zeros (suc n) zero lt = refl
get-zeros (suc n) (suc k) lt = get-zeros n k (omega arith)

-- bytes, and more of them after those
pub more_bytes : (bytes more : List ℕ) (at n upto : ℕ) → upto ≡ at + n → upto ≤ length bytes → length more ≡ n → ((m : ℕ) → m < n → slice_get bytes (at + m) ≡ slice_get more m)
    → take at bytes ++ more ≡ take upto bytes
more_bytes bytes more at n upto is fits size each = same_list (take at bytes ++ more) (take upto bytes) there
  where
    there : (k : ℕ) → slice_get (take at bytes ++ more) k ≡ slice_get (take upto bytes) k
    there k = elim (cases_lt k at) [
      | inl lt ↦
          get-front (take at bytes) more k (omega (arith, length-take at bytes, lt, is, fits)) ∙ get-take at bytes k lt ∙ sym (get-take upto bytes k (omega (arith, lt, is)))
      | inr from ↦ elim (cases_lt k upto) [
        | inl lt ↦
            let place : at + (k - at) ≡ k = omega (arith, from) in
            get-following (take at bytes) more k (k - at) (omega (arith, length-take at bytes, from, is, fits))
            ∙ sym (each (k - at) (omega (arith, from, lt, is))) ∙ ap (slice_get bytes) place ∙ sym (get-take upto bytes k lt)
        | inr past ↦
            slice_get_past (take at bytes ++ more) k (omega (arith, past, length-append (take at bytes) more, length-take at bytes, size, is, fits))
            ∙ sym (slice_get_past (take upto bytes) k (omega (arith, past, length-take upto bytes)))
      ]
    ]

-- zeros
pub more_zeros : (bytes : List ℕ) (at upto : ℕ) → at ≤ upto → upto ≤ length bytes → ((k : ℕ) → at ≤ k → k < upto → slice_get bytes k ≡ Some 0) → take at bytes ++ replicate (upto - at) 0 ≡ take upto bytes
more_zeros bytes at upto le fits each =
    more_bytes bytes (replicate (upto - at) 0) at (upto - at) upto (omega (arith, le)) fits (length-replicate {A = ℕ} (upto - at) 0)
    (λ m lt. each (at + m) (omega arith) (omega (arith, lt)) ∙ sym (get-zeros (upto - at) m lt))

-- how far the first `n` pieces fill `size` bytes
pub record IsFilled (pieces : List BytePiece) (n size at : ℕ) : Type 0 where
  pub inside : at ≤ size
  pub passed : (i : ℕ) (p : BytePiece) → i < n → IsAt pieces i p → (p.start + length p.bytes.now ≤ at) ⊎ (at ≡ size)
  pub left : (i : ℕ) (p : BytePiece) → n ≤ i → IsAt pieces i p → at ≤ p.start

piece_is : (p q : BytePiece) → Some p ≡ Some q → p ≡ q
piece_is p q e = cc

abbrev from_of : BytePiece → ℕ → ℕ
from_of p size = min p.start size

abbrev pub next_of : BytePiece → ℕ → ℕ
next_of p size = from_of p size + min (length p.bytes.now) (size - from_of p size)

pub filled_more : (pieces : List BytePiece) (bytes : List ℕ) (n size at next : ℕ) (p : BytePiece) → ArePieces pieces bytes → IsFilled pieces n size at → IsAt pieces n p → next ≡ next_of p size → IsFilled pieces (n + 1) size next
filled_more pieces bytes n size at next p are is here to = record {
  inside = omega (arith, to);
  passed = λ i q lt there. elim (cases_lt i n) [
    | inl before ↦ elim (cases_lt next size) [
      | inl less ↦ inl (omega (arith, are.apart i n q p before there here, to, less))
      | inr full ↦ inr (omega (arith, full, to))
    ]
    | inr last ↦
        let place : i ≡ n = omega (arith, lt, last) in
        let one : p ≡ q = piece_is p q (sym here ∙ ap (slice_get pieces) (sym place) ∙ there) in
        subst (λ (x : BytePiece). (x.start + length x.bytes.now ≤ next) ⊎ (next ≡ size)) one by_size
  ];
  left = λ i q le there. omega (arith, are.apart n i p q (omega (arith, le)) here there, to);
}
  where
    by_size : (p.start + length p.bytes.now ≤ next) ⊎ (next ≡ size)
    by_size = elim (cases_lt next size) [
      | inl less ↦ inl (omega (arith, to, less))
      | inr full ↦ inr (omega (arith, full, to))
    ]

-- the zeros before a piece
gap : (pieces : List BytePiece) (bytes : List ℕ) (n size at upto : ℕ) → ArePieces pieces bytes → IsFilled pieces n size at → size ≤ length bytes → upto ≤ size
    → ((i : ℕ) (q : BytePiece) → n ≤ i → IsAt pieces i q → upto ≤ q.start) → (k : ℕ) → at ≤ k → k < upto → slice_get bytes k ≡ Some 0
gap pieces bytes n size at upto are is fits le following k from lt = are.zeros k (omega (arith, fits, le, lt)) (λ i q there. elim (cases_lt i n) [
  | inl before ↦ elim (is.passed i q before there) [
    | inl past ↦ inr (omega (arith, past, from))
    | inr full ↦ absurd (omega (arith, full, from, lt, le))
  ]
  | inr after ↦ inl (omega (arith, following i q after there, lt))
])

pub piece_filled : (pieces : List BytePiece) (bytes so_far : List ℕ) (n size at next : ℕ) (p : BytePiece) → ArePieces pieces bytes → IsFilled pieces n size at → size ≤ length bytes → IsAt pieces n p → next ≡ next_of p size
    → so_far ≡ take at bytes → so_far ++ (replicate (from_of p size - at) 0 ++ take (next - from_of p size) p.bytes.now) ≡ take next bytes
piece_filled pieces bytes so_far n size at next p are is fits here to done =
    let start = from_of p size in
    let from : at ≤ start = omega (arith, is.inside, is.left n p (omega arith) here) in
    let zeros : take at bytes ++ replicate (start - at) 0 ≡ take start bytes =
    more_zeros bytes at start from (omega (arith, fits)) (gap pieces bytes n size at start are is fits (omega arith) (λ i q le there. following i q le there)) in
    sym (append_assoc so_far (replicate (start - at) 0) (take (next - start) p.bytes.now))
    ∙ ap (λ (l : List ℕ). (l ++ replicate (start - at) 0) ++ take (next - start) p.bytes.now) done
    ∙ ap (λ (l : List ℕ). l ++ take (next - start) p.bytes.now) zeros
    ∙ more_bytes bytes (take (next - start) p.bytes.now) start (next - start) next (omega (arith, to)) (omega (arith, to, fits)) (omega (arith, length-take (next - start) p.bytes.now, to)) (λ m lt. byte m lt)
  where
    following : (i : ℕ) (q : BytePiece) → n ≤ i → IsAt pieces i q → from_of p size ≤ q.start
    following i q le there = elim (cases_lt n i) [
      | inl after ↦ omega (arith, are.apart n i p q after here there)
      | inr same ↦
          let place : i ≡ n = omega (arith, le, same) in
          let one : p ≡ q = piece_is p q (sym here ∙ ap (slice_get pieces) (sym place) ∙ there) in
          subst (λ (x : BytePiece). from_of p size ≤ x.start) one (omega arith)
    ]

    byte : (m : ℕ) → m < next - from_of p size → slice_get bytes (from_of p size + m) ≡ slice_get (take (next - from_of p size) p.bytes.now) m
    byte m lt =
        let place : from_of p size + m ≡ p.start + m = omega (arith, to, lt) in
        ap (slice_get bytes) place ∙ are.inside n m p here (omega (arith, to, lt)) ∙ sym (get-take (next - from_of p size) p.bytes.now m lt)

-- the zeros after the last piece
pub all_filled : (pieces : List BytePiece) (bytes so_far : List ℕ) (n size at : ℕ) → ArePieces pieces bytes → IsFilled pieces n size at → size ≤ length bytes → length pieces ≤ n → so_far ≡ take at bytes
    → so_far ++ replicate (size - at) 0 ≡ take size bytes
all_filled pieces bytes so_far n size at are is fits all done =
    ap (λ (l : List ℕ). l ++ replicate (size - at) 0) done
    ∙ more_zeros bytes at size is.inside fits (gap pieces bytes n size at size are is fits (omega arith) (λ i q le there. absurd (omega (arith, within pieces i q there, all, le))))

-- one piece, at the start
pub lone_is : (p : BytePiece) (bytes : List ℕ) → ArePieces (p ∷ []) bytes → p.start ≡ 0 → bytes ≡ p.bytes.now ++ replicate (length bytes - length p.bytes.now) 0
lone_is p bytes are first = same_list bytes (p.bytes.now ++ replicate (length bytes - length p.bytes.now) 0) there
  where
    fits : p.start + length p.bytes.now ≤ length bytes
    fits = are.fits 0 p refl

    there : (k : ℕ) → slice_get bytes k ≡ slice_get (p.bytes.now ++ replicate (length bytes - length p.bytes.now) 0) k
    there k = elim (cases_lt k (length p.bytes.now)) [
      | inl lt ↦
          let place : k ≡ p.start + k = omega (arith, first) in
          ap (slice_get bytes) place ∙ are.inside 0 k p refl lt ∙ sym (get-front p.bytes.now (replicate (length bytes - length p.bytes.now) 0) k lt)
      | inr from ↦ elim (cases_lt k (length bytes)) [
        | inl lt ↦
            are.zeros k lt (λ i q at. inr (past k from i q at))
            ∙ sym (get-following p.bytes.now (replicate (length bytes - length p.bytes.now) 0) k (k - length p.bytes.now) (omega (arith, from)) ∙ get-zeros (length bytes - length p.bytes.now) (k - length p.bytes.now) (omega (arith, from, lt)))
        | inr past' ↦
            slice_get_past bytes k past'
            ∙ sym (slice_get_past (p.bytes.now ++ replicate (length bytes - length p.bytes.now) 0) k (omega (arith, past', from, fits, first, length-append p.bytes.now (replicate (length bytes - length p.bytes.now) 0), length-replicate {A = ℕ} (length bytes - length p.bytes.now) 0)))
      ]
    ]
      where
        past : (k : ℕ) → length p.bytes.now ≤ k → (i : ℕ) (q : BytePiece) → IsAt (p ∷ []) i q → q.start + length q.bytes.now ≤ k
        past k from zero q at = subst (λ (x : BytePiece). x.start + length x.bytes.now ≤ k) (piece_is p q at) (omega (arith, first, from))
        past k from (suc i) q at = absurd cc

-- ---- after the old bytes

pub put_more : (pieces : List BytePiece) (old so_far new bytes : List ℕ) (n size at next : ℕ) (p : BytePiece) → ArePieces pieces bytes → IsFilled pieces n size at → size ≤ length bytes → IsAt pieces n p → next ≡ next_of p size
    → so_far ≡ old ++ take at bytes → new ≡ so_far ++ (replicate (min p.start size - at) 0 ++ take (next - min p.start size) p.bytes.now) → new ≡ old ++ take next bytes
put_more pieces old so_far new bytes n size at next p are is fits here to done put =
    put ∙ ap (λ (l : List ℕ). l ++ (replicate (min p.start size - at) 0 ++ take (next - min p.start size) p.bytes.now)) done
    ∙ append_assoc old (take at bytes) (replicate (min p.start size - at) 0 ++ take (next - min p.start size) p.bytes.now)
    ∙ ap (λ (l : List ℕ). old ++ l) (piece_filled pieces bytes (take at bytes) n size at next p are is fits here to refl)

pub put_all : (pieces : List BytePiece) (old so_far new bytes : List ℕ) (n size at : ℕ) → ArePieces pieces bytes → IsFilled pieces n size at → size ≤ length bytes → length pieces ≤ n
    → so_far ≡ old ++ take at bytes → new ≡ so_far ++ replicate (size - at) 0 → new ≡ old ++ take size bytes
put_all pieces old so_far new bytes n size at are is fits all done put =
    put ∙ ap (λ (l : List ℕ). l ++ replicate (size - at) 0) done ∙ append_assoc old (take at bytes) (replicate (size - at) 0)
    ∙ ap (λ (l : List ℕ). old ++ l) (all_filled pieces bytes (take at bytes) n size at are is fits all refl)
