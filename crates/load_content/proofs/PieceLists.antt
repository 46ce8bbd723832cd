-- Pieces of a segment's data, one after another.
use Rattle.std.proofs.Common.{◌≡◌, ℕ, zero, suc, ◌+◌, ◌-◌, ◌<◌, ◌≤◌, List, [], ◌∷◌, ◌++◌, length, drop, get_or, replicate, Some, None, refl, sym, ap, subst, ◌∙◌, arith, inl, inr}
use Rattle.std.specs.Prelude.{◌⊎◌, slice_get, slice_index}
use Rattle.std.specs.List.Sorted.{IsNonDecreasingBy}
use Rattle.std.proofs.lemmas.Bool.{cases_lt, cases_order}
use Rattle.std.proofs.lemmas.List.{length-append, length-drop, get_or-drop}
use Rattle.load_content.specs.declared.pieces.BytePiece.{BytePiece}
use Rattle.load_content.specs.Content.{IsZeros, ArePieces, start_of}
use Rattle.load_meaning.specs.laws.LayingLaws.{get-front, get-following}
use Rattle.load_content.proofs.Splits.{within, get_there}

pub no_pieces : ArePieces [] []
no_pieces = record {
  apart = λ i j p q lt at at'. absurd cc;
  inside = λ i n p at lt. absurd cc;
  fits = λ i p at. absurd cc;
  zeros = λ k lt none. absurd (omega arith);
}

get-zeros : (n k : ℕ) → k < n → slice_get {X = ℕ} (replicate n 0) k ≡ Some 0
get-zeros zero k lt = absurd (omega arith)
get-zeros (suc n) zero lt = refl
get-zeros (suc n) (suc k) lt = get-zeros n k (omega arith)

-- bytes after them that are 0
pub zeros_more : (pieces : List BytePiece) (bytes more : List ℕ) → ArePieces pieces bytes → IsZeros more → ArePieces pieces (bytes ++ more)
zeros_more pieces bytes more are zeros = record {
  apart = are.apart;
  inside = λ i n p at lt. get-front bytes more (p.start + n) (omega (arith, are.fits i p at)) ∙ are.inside i n p at lt;
  fits = λ i p at. omega (arith, are.fits i p at, length-append bytes more);
  zeros = λ k lt none. elim (cases_lt k (length bytes)) [
    | inl here ↦ get-front bytes more k here ∙ are.zeros k here none
    | inr following ↦
        let place : k ≡ length bytes + (k - length bytes) = omega (arith, following) in
        get-following bytes more k (k - length bytes) place ∙ ap (λ (l : List ℕ). slice_get l (k - length bytes)) zeros
        ∙ get-zeros (length more) (k - length bytes) (omega (arith, length-append bytes more, following))
  ];
}

-- one of the pieces, or the last one
last_or : {A : Type 0} (xs : List A) (y : A) (i : ℕ) (x : A) → slice_get (xs ++ y ∷ []) i ≡ Some x → (slice_get xs i ≡ Some x) ⊎ ((i ≡ length xs) × (x ≡ y))
last_or [] y zero x e = inr (refl, cc)
last_or [] y (suc i) x e = absurd cc
last_or (z ∷ xs) y zero x e = inl e
last_or (z ∷ xs) y (suc i) x e = elim (last_or xs y i x e) [
  | inl found ↦ inl found
  | inr last ↦ inr (ap suc last.0, last.1)
]

last_there : {A : Type 0} (xs : List A) (y : A) → slice_get (xs ++ y ∷ []) (length xs) ≡ Some y
last_there [] y = refl
last_there (z ∷ xs) y = last_there xs y

-- one piece more
pub pieces_more : (pieces : List BytePiece) (bytes : List ℕ) (new : BytePiece) → ArePieces pieces bytes → new.start ≡ length bytes → ArePieces (pieces ++ new ∷ []) (bytes ++ new.bytes.now)
pieces_more pieces bytes new are start = record {
  apart = λ i j p q lt at at'. elim (last_or pieces new j q at') [
    | inl found ↦ elim (last_or pieces new i p at) [
      | inl first ↦ are.apart i j p q lt first found
      | inr last ↦ absurd (omega (arith, lt, last.0, within pieces j q found))
    ]
    | inr last ↦ elim (last_or pieces new i p at) [
      | inl first ↦ let s : q.start ≡ new.start = ap (λ (r : BytePiece). r.start) last.1 in omega (arith, are.fits i p first, start, s)
      | inr other ↦ absurd (omega (arith, lt, last.0, other.0))
    ]
  ];
  inside = λ i n p at lt. elim (last_or pieces new i p at) [
    | inl first ↦ get-front bytes new.bytes.now (p.start + n) (omega (arith, are.fits i p first, lt)) ∙ are.inside i n p first lt
    | inr last ↦
        let s : p.start ≡ new.start = ap (λ (r : BytePiece). r.start) last.1 in
        get-following bytes new.bytes.now (p.start + n) n (omega (arith, s, start)) ∙ ap (λ (r : BytePiece). slice_get r.bytes.now n) (sym last.1)
  ];
  fits = λ i p at. elim (last_or pieces new i p at) [
    | inl first ↦ omega (arith, are.fits i p first, length-append bytes new.bytes.now)
    | inr last ↦
        let s : p.start ≡ new.start = ap (λ (r : BytePiece). r.start) last.1 in
        let l : length p.bytes.now ≡ length new.bytes.now = ap (λ (r : BytePiece). length r.bytes.now) last.1 in
        omega (arith, length-append bytes new.bytes.now, s, l, start)
  ];
  zeros = λ k lt none. elim (cases_lt k (length bytes)) [
    | inl here ↦
        get-front bytes new.bytes.now k here
        ∙ are.zeros k here (λ i p at. none i p (get-front pieces (new ∷ []) i (within pieces i p at) ∙ at))
    | inr following ↦ elim (none (length pieces) new (last_there pieces new)) [
      | inl before ↦ absurd (omega (arith, before, start, following))
      | inr past ↦ absurd (omega (arith, past, start, lt, length-append bytes new.bytes.now))
    ]
  ];
}

-- ---- searches

-- before the first piece the bytes are 0
pub none_begins : (pieces : List BytePiece) (bytes : List ℕ) (at : ℕ) → ArePieces pieces bytes → at < length bytes → ((i : ℕ) (p : BytePiece) → slice_get pieces i ≡ Some p → at < start_of p) → slice_get bytes at ≡ Some 0
none_begins pieces bytes at are lt none = are.zeros at lt (λ i p is. inl (none i p is))

-- a byte of a piece
pub covered : (pieces : List BytePiece) (bytes : List ℕ) (at i : ℕ) (p : BytePiece) (b : ℕ) → ArePieces pieces bytes → slice_get pieces i ≡ Some p → start_of p ≤ at → slice_get p.bytes.now (at - p.start) ≡ Some b → slice_get bytes at ≡ Some b
covered pieces bytes at i p b are there low is =
    let place : p.start + (at - p.start) ≡ at = omega (arith, low) in
    ap (slice_get bytes) (sym place) ∙ are.inside i (at - p.start) p there (within p.bytes.now (at - p.start) b is) ∙ is

-- the bytes of a piece from an offset on
pub covered_from : (pieces : List BytePiece) (bytes : List ℕ) (at i n : ℕ) (p : BytePiece) → ArePieces pieces bytes → slice_get pieces i ≡ Some p → start_of p ≤ at → n < length (drop (at - p.start) p.bytes.now)
    → slice_get bytes (at + n) ≡ Some (slice_index (drop (at - p.start) p.bytes.now) n)
covered_from pieces bytes at i n p are there low lt =
    let from : at + n - p.start ≡ at - p.start + n = omega (arith, low) in
    let inside : at - p.start + n < length p.bytes.now = omega (arith, lt, length-drop (at - p.start) p.bytes.now) in
    let low' : start_of p ≤ at + n = omega (arith, low) in
    covered pieces bytes (at + n) i p (slice_index (drop (at - p.start) p.bytes.now) n) are there low'
    (ap (slice_get p.bytes.now) from ∙ get_there p.bytes.now (at - p.start + n) 0 inside ∙ ap (λ (b : ℕ). Some b) (sym (get_or-drop (at - p.start) p.bytes.now n 0)))

past : (bytes : List ℕ) (k : ℕ) → slice_get bytes k ≡ None → length bytes ≤ k
past [] k e = omega arith
past (b ∷ bytes) zero e = absurd cc
past (b ∷ bytes) (suc k) e = let rest = past bytes k e in omega arith

piece_same : (p q : BytePiece) → Some p ≡ Some q → p ≡ q
piece_same p q e = cc

-- after a piece and before the next one the bytes are 0
pub uncovered : (pieces : List BytePiece) (bytes : List ℕ) (at i : ℕ) (p : BytePiece) → ArePieces pieces bytes → at < length bytes → slice_get pieces i ≡ Some p → start_of p ≤ at → slice_get p.bytes.now (at - p.start) ≡ None
    → ((j : ℕ) (q : BytePiece) → i < j → slice_get pieces j ≡ Some q → at < start_of q) → slice_get bytes at ≡ Some 0
uncovered pieces bytes at i p are lt there low none after = are.zeros at lt (λ j q is. elim (cases_order j i) [
  | inl same ↦
      let one : q ≡ p = piece_same q p (sym is ∙ ap (slice_get pieces) same ∙ there) in
      inr (subst (λ (r : BytePiece). r.start + length r.bytes.now ≤ at) (sym one) (omega (arith, past p.bytes.now (at - p.start) none, low)))
  | inr other ↦ elim other [
    | inl before ↦ inr (omega (arith, are.apart j i q p before is there, low))
    | inr following ↦ inl (after j q following is)
  ]
])

-- the pieces are in the order of their offsets
pub rising : (pieces : List BytePiece) (bytes : List ℕ) → ArePieces pieces bytes → IsNonDecreasingBy start_of pieces
rising pieces bytes are = λ i j d le lt. elim (cases_order i j) [
  | inl same ↦ let e : start_of (get_or pieces i d) ≡ start_of (get_or pieces j d) = ap (λ (n : ℕ). start_of (get_or pieces n d)) same in omega (arith, e)
  | inr other ↦ elim other [
    | inl before ↦ let h = are.apart i j (get_or pieces i d) (get_or pieces j d) before (get_there pieces i d (omega arith)) (get_there pieces j d lt) in omega (arith, h)
    | inr following ↦ absurd (omega (arith, following, le))
  ]
]
