-- A file that is read again, of a user that may be attached to another.
use Rattle.std.proofs.Common.{◌≡◌, ℕ, suc, Bool, true, false, cond, ◌+◌, List, [], ◌∷◌, map, Option, Some, None, refl, sym, ap, ◌∙◌}
use Rattle.std.specs.Prelude.{slice_get, option_map, not, ◌&&◌}
use Rattle.std.specs.Option.{option_or}
use Rattle.omf_format.specs.Header.{is_dynamic, is_skipped}
use Rattle.omf_format.specs.File.{Segment}
use Rattle.load_meaning.specs.declared.load.LoadCause.TheVariants.{NotLoadFile}
use Rattle.load_meaning.specs.declared.load.LoadFault.{LoadFault}
use Rattle.load_meaning.specs.Loadable.{Fault, first_in, IsLoadable}
use Rattle.load_meaning.specs.laws.Steps.{in_segment}
use Rattle.load_meaning.specs.Runtime.{kind_fault, runtime_fault, OfLoading, OfKind}
use Rattle.load_meaning.specs.laws.LoadableLaws.{loadable_same, loadable_sound}
use Rattle.loader_machine.specs.declared.seen.SegmentHead.{SegmentHead}
use Rattle.loader_machine.specs.Heads.{head_of, at_number}
use Rattle.loader_users.specs.Taken.{IsReadAs, IsFaultAs}

-- either way it is a load file
pub as_loadable : (attached : Bool) (file : List ℕ) (segments : List Segment) → IsReadAs attached file segments → IsLoadable file segments
as_loadable true file segments is = is.loadable
as_loadable false file segments is = is

-- so it is in each header
abbrev AreCalled : List SegmentHead → Type 0
AreCalled heads = (k : ℕ) (g : SegmentHead) → slice_get heads k ≡ Some g → (is_dynamic g.kind ≡ true) × (is_skipped g.kind ≡ false)

none_in : (number : ℕ) (segments : List Segment) → AreCalled (map head_of segments) → first_in kind_fault number segments ≡ None
none_in number [] called = refl
none_in number (s ∷ segments) called =
    let here = called 0 (head_of s) refl in
    go (is_dynamic s.fields.kind) (is_skipped s.fields.kind) here.0 here.1 (none_in (number + 1) segments (λ k g is. called (suc k) g is))
  where
    go : (d k : Bool) → d ≡ true → k ≡ false → first_in kind_fault (number + 1) segments ≡ None
        → option_or (option_map (in_segment number) (cond {A = Option Fault} (d && not k) None (Some (NotLoadFile, s.start)))) (first_in kind_fault (number + 1) segments) ≡ None
    go true false one two rest = rest
    go true true one two rest = absurd cc
    go false k one two rest = absurd cc

-- such a file has no first fault
pub no_fault_as : (attached : Bool) (file : List ℕ) (segments : List Segment) (bad : LoadFault) → IsLoadable file segments
    → (attached ≡ true → (n : ℕ) (g : SegmentHead) → at_number (map head_of segments) n ≡ Some g → (is_dynamic g.kind ≡ true) × (is_skipped g.kind ≡ false)) → IsFaultAs attached file bad → ⊥
unfolding runtime_fault
no_fault_as false file segments bad loads called first = loadable_sound file segments bad loads first
no_fault_as true file segments bad loads called (OfLoading first) = loadable_sound file segments bad loads first
no_fault_as true file segments bad loads called (OfKind others loads' some) =
    let same = loadable_same file segments others loads loads' in
    let none : first_in kind_fault 1 segments ≡ None = none_in 1 segments (λ k g is. called refl (suc k) g is) in
    let clash : None ≡ Some bad = sym none ∙ ap (λ (ss : List Segment). first_in kind_fault 1 ss) same ∙ some in cc
