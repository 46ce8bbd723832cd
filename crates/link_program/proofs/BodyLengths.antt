-- LENGTH of a sound segment bounds its body.
use Rattle.std.proofs.Common.{◌≡◌, ℕ, zero, suc, ◌+◌, ◌≤◌, Bool, true, false, List, [], ◌∷◌, Option, Some, None, refl, subst, arith}
use Rattle.std.specs.Prelude.{slice_get, option_map, if◌then◌else◌, ◌==◌}
use Rattle.std.specs.Option.{option_or}
use Rattle.std.proofs.lemmas.Bool.{eqb-true}
use Rattle.omf_format.specs.File.{Segment}
use Rattle.omf_format.specs.Header.{alignment_of}
use Rattle.link_meaning.specs.declared.fault.LinkCause.{LinkCause}
use Rattle.link_meaning.specs.declared.fault.LinkCause.TheVariants.{BadLength}
use Rattle.object_meaning.specs.Sizes.{body_size}
use Rattle.link_meaning.specs.LinkFaults.{segment_fault, segments_fault, type_fault}
use Rattle.link_meaning.specs.laws.Steps.{with_place, records_fault, length_fault}

or_none : {A : Type 0} → (a b : Option A) → option_or a b ≡ None → (a ≡ None) × (b ≡ None)
or_none None b e = (refl, e)
or_none (Some x) b e = absurd cc

map_none : {A B : Type 0} → (f : A → B) (a : Option A) → option_map f a ≡ None → a ≡ None
map_none f None e = refl
map_none f (Some x) e = absurd cc

segment_sound : (first : Bool) (s : Segment) → segment_fault first s ≡ None → length_fault s ≡ None
unfolding segment_fault
segment_sound first s e =
    let a = or_none (option_map (with_place s.start) (type_fault first s.fields)) (option_or (records_fault (alignment_of s.fields.align) s.records) (length_fault s)) e in
    (or_none (records_fault (alignment_of s.fields.align) s.records) (length_fault s) a.1).1

each_sound : (number : ℕ) (list : List Segment) (k : ℕ) (s : Segment) → segments_fault number list ≡ None → slice_get list k ≡ Some s → length_fault s ≡ None
each_sound number [] k s none e = absurd cc
each_sound number (x ∷ list) zero s none e =
    let same : x ≡ s = cc in
    let a = or_none (option_map (λ (found : LinkCause × ℕ). (number, found)) (segment_fault (number == 1) x)) (segments_fault (number + 1) list) none in
    subst (λ (y : Segment). length_fault y ≡ None) same (segment_sound (number == 1) x (map_none (λ (found : LinkCause × ℕ). (number, found)) (segment_fault (number == 1) x) a.0))
each_sound number (x ∷ list) (suc k) s none e =
    let a = or_none (option_map (λ (found : LinkCause × ℕ). (number, found)) (segment_fault (number == 1) x)) (segments_fault (number + 1) list) none in
    each_sound (number + 1) list k s a.1 e

length_is : (s : Segment) → length_fault s ≡ None → s.fields.length ≡ body_size s + s.fields.res_spc
length_is s e = settle (s.fields.length == body_size s + s.fields.res_spc) refl e
  where
    settle : (b : Bool) → (s.fields.length == body_size s + s.fields.res_spc) ≡ b → (if b then None else Some (with_place s.start BadLength)) ≡ None → s.fields.length ≡ body_size s + s.fields.res_spc
    settle true is none = eqb-true s.fields.length (body_size s + s.fields.res_spc) is
    settle false is none = absurd cc

-- a sound segment's body is no longer than LENGTH says
pub body_short : (list : List Segment) (k : ℕ) (s : Segment) → segments_fault 1 list ≡ None → slice_get list k ≡ Some s → body_size s ≤ s.fields.length
body_short list k s none e = let is = length_is s (each_sound 1 list k s none e) in omega (arith, is)
