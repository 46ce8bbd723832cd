-- The phases over the segments of a file, one by one.
use Rattle.std.proofs.Common.{◌≡◌, ℕ, zero, suc, ◌+◌, List, [], ◌∷◌, Option, Some, None, refl, subst, arith}
use Rattle.std.specs.Prelude.{slice_get, option_map}
use Rattle.std.specs.Option.{option_or}
use Rattle.omf_format.specs.File.{Segment}
use Rattle.load_meaning.specs.declared.load.LoadFault.{LoadFault}
use Rattle.load_meaning.specs.Loadable.{Fault, first_in}
use Rattle.load_meaning.specs.laws.Steps.{in_segment}

abbrev pub no_fault : Option Fault
no_fault = None

abbrev pub some_segment : Segment → Option Segment
some_segment s = Some s

pub segment_is : (s t : Segment) → some_segment s ≡ Some t → s ≡ t
segment_is s t e = cc

pub none_in : (phase : ℕ → Segment → Option Fault) (number : ℕ) (segments : List Segment) → ((k : ℕ) (s : Segment) → slice_get segments k ≡ Some s → phase (number + k) s ≡ None) → first_in phase number segments ≡ None
none_in phase number [] each = refl
none_in phase number (s ∷ segments) each =
    let place : number + 0 ≡ number = omega arith in
    let here : phase number s ≡ None = subst (λ (n : ℕ). phase n s ≡ None) place (each 0 s refl) in
    let rest = none_in phase (number + 1) segments (λ k t is. let next : number + suc k ≡ number + 1 + k = omega arith in subst (λ (n : ℕ). phase n t ≡ None) next (each (suc k) t is)) in
    rw here rest

pub first_none : (o : Option Fault) (rest : Option LoadFault) (number : ℕ) → option_or (option_map (in_segment number) o) rest ≡ None → (o ≡ None) × (rest ≡ None)
first_none None rest number e = (refl, e)
first_none (Some fault) rest number e = absurd cc

pub none_at : (phase : ℕ → Segment → Option Fault) (number : ℕ) (segments : List Segment) → first_in phase number segments ≡ None → (k : ℕ) (s : Segment) → slice_get segments k ≡ Some s → phase (number + k) s ≡ None
none_at phase number [] e k s is = absurd cc
none_at phase number (t ∷ segments) e zero s is =
    let both = first_none (phase number t) (first_in phase (number + 1) segments) number e in
    let place : number ≡ number + 0 = omega arith in
    subst (λ (n : ℕ). phase n s ≡ None) place (subst (λ (u : Segment). phase number u ≡ None) (segment_is t s is) both.0)
none_at phase number (t ∷ segments) e (suc k) s is =
    let both = first_none (phase number t) (first_in phase (number + 1) segments) number e in
    let place : number + 1 + k ≡ number + suc k = omega arith in
    subst (λ (n : ℕ). phase n s ≡ None) place (none_at phase (number + 1) segments both.1 k s is)
