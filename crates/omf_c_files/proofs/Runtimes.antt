-- Whether all segments can be in a run-time library file, segment by segment.
use Rattle.std.proofs.Common.{◌≡◌, ℕ, zero, suc, ◌+◌, Bool, true, false, List, [], ◌∷◌, take, Option, refl, sym, subst, arith}
use Rattle.std.specs.Prelude.{◌&&◌, IsSomeAnd, slice_get}
use Rattle.std.specs.List.{list_all}
use Rattle.std.proofs.lemmas.Bool.{and_parts}
use Rattle.omf_format.specs.File.{Segment, segment_at}
use Rattle.omf_c_files.specs.Opened.{is_callable}

-- the segment with a number has this answer
abbrev Has : List Segment → Option Segment → Bool → Type 0
Has segments o b = IsSomeAnd o (λ s. b ≡ is_callable s)

at_place : (segments : List Segment) (k : ℕ) (b : Bool) → Has segments (segment_at segments (k + 1)) b → Has segments (slice_get segments k) b
at_place segments k b has = let same : k + 1 ≡ suc k = omega arith in subst (λ n. Has segments (segment_at segments n) b) same has

more : (segments : List Segment) (k : ℕ) → Has segments (slice_get segments k) true → list_all is_callable (take k segments) ≡ true → list_all is_callable (take (suc k) segments) ≡ true
more [] k at before = refl
more (s ∷ segments) zero at before = rw (sym at) refl
more (s ∷ segments) (suc k) at before =
    let parts = and_parts (is_callable s) (list_all is_callable (take k segments)) before in
    rw (parts.0, more segments k at parts.1) refl

and_false : (a : Bool) → (a && false) ≡ false
and_false true = refl
and_false false = refl

fails : (segments : List Segment) (k : ℕ) → Has segments (slice_get segments k) false → list_all is_callable segments ≡ false
fails [] k at = absurd at
fails (s ∷ segments) zero at = rw (sym at) refl
fails (s ∷ segments) (suc k) at = rw (fails segments k at) (and_false (is_callable s))

pub callable_more : (segments : List Segment) (k : ℕ) (b : Bool) → Has segments (segment_at segments (k + 1)) b → b ≡ true → list_all is_callable (take k segments) ≡ true
    → list_all is_callable (take (k + 1) segments) ≡ true
callable_more segments k b at is before =
    let same : suc k ≡ k + 1 = omega arith in
    subst (λ n. list_all is_callable (take n segments) ≡ true) same (more segments k (subst (Has segments (slice_get segments k)) is (at_place segments k b at)) before)

pub callable_not : (segments : List Segment) (k : ℕ) (b : Bool) → Has segments (segment_at segments (k + 1)) b → b ≡ false → list_all is_callable segments ≡ false
callable_not segments k b at is = fails segments k (subst (Has segments (slice_get segments k)) is (at_place segments k b at))
