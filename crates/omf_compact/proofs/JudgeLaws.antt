-- The patches of all segments of a load file.
use Rattle.std.proofs.Common.{◌≡◌, ℕ, zero, suc, ◌+◌, ◌<◌, List, [], ◌∷◌, ◌++◌, length, Option, Some, None, refl, sym, ap, subst, ◌∙◌, arith, inl, inr}
use Rattle.std.specs.Prelude.{slice_get, option_map, map, Vec, IfSome}
use Rattle.std.specs.declared.alloc.Global.{Global}
use Rattle.std.specs.List.{AllByRecursion}
use Rattle.std.specs.Option.{option_or}
use Rattle.std.proofs.lemmas.Bool.{cases_lt}
use Rattle.std.proofs.lemmas.List.{length-append}
use Rattle.std.proofs.lemmas.Option.{slice_get_within}
use Rattle.omf_format.specs.File.{Segment, segment_at}
use Rattle.load_meaning.specs.Cells.{Cell, Patch, segment_bytes, cells}
use Rattle.load_meaning.specs.WrittenBody.{written_cells}
use Rattle.load_meaning.specs.laws.CellLaws.{length-segment_bytes}
use Rattle.load_meaning.specs.laws.LayingLaws.{get-front, get-following}
use Rattle.load_writer.specs.declared.written.Patch as code
use Rattle.load_writer.specs.WrittenParts.{seen}
use Rattle.omf_cells.specs.Whole.{AreSpaced, AreWhole, HasWhole}
use Rattle.omf_compact.specs.Stretches.{first_broken, stretches, IsWrittenCell}
use Rattle.omf_compact.specs.Canonical.{plain_of, plain, broken_in}
use Rattle.omf_compact.specs.laws.PartedLaws.{parted_again}
use Rattle.omf_compact.specs.laws.SpacedLaws.{spaced_written}
use Rattle.omf_compact.specs.declared.parting.Parted.{Parted}
use Rattle.omf_compact.specs.laws.Walk.{IsParted}
use Rattle.omf_compact.specs.laws.Writing.{IsKnown, HasStretches, AreStretches}
use Rattle.omf_compact.proofs.KnownLaws.{at_some, known_sound, known_written}

-- ---- patches that lie apart are the stretches

pub whole_parted : (segments : List Segment) (number : ℕ) (s : Segment) (patches : List Patch) → IsKnown segments → segment_at segments number ≡ Some s → HasWhole segments number patches
    → (first_broken (cells s) ≡ None) × (patches ≡ stretches (cells s))
unfolding written_cells
whole_parted segments number s patches known at has =
    let are = at_some (λ (t : Segment). AreWhole t patches) segments number s at has in
    let bytes = segment_bytes s in
    let size = length-segment_bytes s (known_sound segments number s known at).fits in
    let spaced : AreSpaced (length bytes) 0 patches = subst (λ (n : ℕ). AreSpaced n 0 patches) (sym size) are.spaced in
    let same : cells s ≡ written_cells bytes patches = are.cells' in
    let written = spaced_written bytes patches spaced (subst (AllByRecursion IsWrittenCell) same (known_written segments number s known at)) in
    let again = parted_again bytes patches written in
    (ap first_broken same ∙ again.1, sym (ap stretches same ∙ again.0))

-- ---- the first broken part

abbrev some_place : ℕ → ℕ → Option (ℕ × ℕ)
some_place number at = Some (number, at)

pub first_is : (number : ℕ) (segments : List Segment) (k : ℕ) (s : Segment) (at : ℕ) → slice_get segments k ≡ Some s → ((j : ℕ) (t : Segment) → j < k → slice_get segments j ≡ Some t → first_broken (cells t) ≡ None)
    → first_broken (cells s) ≡ Some at → broken_in number (plain segments) ≡ Some (number + k, at)
unfolding plain_of
first_is number [] k s at is before broken = absurd cc
first_is number (t ∷ segments) zero s at is before broken =
    let same : t ≡ s = segment_same t s is in
    let here : first_broken (cells t) ≡ Some at = ap (λ (u : Segment). first_broken (cells u)) same ∙ broken in
    let place : number ≡ number + 0 = omega arith in
    ap (λ (o : Option ℕ). option_or (option_map (λ (n : ℕ). (number, n)) o) (broken_in (number + 1) (plain segments))) here ∙ ap (λ (n : ℕ). some_number n) place
  where
    segment_same : (a b : Segment) → Some a ≡ Some b → a ≡ b
    segment_same a b e = cc

    some_number : ℕ → Option (ℕ × ℕ)
    some_number n = Some (n, at)
first_is number (t ∷ segments) (suc k) s at is before broken =
    let here : first_broken (cells t) ≡ None = before 0 t (omega arith) refl in
    let place : number + 1 + k ≡ number + suc k = omega arith in
    ap (λ (o : Option ℕ). option_or (option_map (λ (n : ℕ). (number, n)) o) (broken_in (number + 1) (plain segments))) here
    ∙ first_is (number + 1) segments k s at is (λ j u lt there. before (suc j) u (omega (arith, lt)) there) broken
    ∙ ap (λ (n : ℕ). some_number n) place
  where
    some_number : ℕ → Option (ℕ × ℕ)
    some_number n = Some (n, at)

pub none_is : (number : ℕ) (segments : List Segment) → ((j : ℕ) (t : Segment) → slice_get segments j ≡ Some t → first_broken (cells t) ≡ None) → broken_in number (plain segments) ≡ None
unfolding plain_of
none_is number [] each = refl
none_is number (t ∷ segments) each =
    ap (λ (o : Option ℕ). option_or (option_map (λ (n : ℕ). (number, n)) o) (broken_in (number + 1) (plain segments))) (each 0 t refl) ∙ none_is (number + 1) segments (λ j u is. each (suc j) u is)

-- ---- list by list

-- the first n segments have their lists
pub record Judged (segments : List Segment) (n : ℕ) (lists : List (Vec code.Patch Global)) : Type 0 where
  pub count : length lists ≡ n
  pub each : (k : ℕ) (s : Segment) → k < n → slice_get segments k ≡ Some s → first_broken (cells s) ≡ None
  pub lists' : (k : ℕ) (s : Segment) (patches : Vec code.Patch Global) → slice_get segments k ≡ Some s → slice_get lists k ≡ Some patches → HasStretches s (map seen patches.items)

pub judged_more : (segments : List Segment) (n : ℕ) (lists new : List (Vec code.Patch Global)) (patches : Vec code.Patch Global) → Judged segments n lists → new ≡ lists ++ patches ∷ []
    → ((s : Segment) → slice_get segments n ≡ Some s → (first_broken (cells s) ≡ None) × (map seen patches.items ≡ stretches (cells s))) → Judged segments (n + 1) new
judged_more segments n lists new patches so_far pushed here = record {
  count = omega (arith, ap length pushed, length-append lists (patches ∷ []), so_far.count);
  each = λ k s lt is. elim (cases_lt k n) [
    | inl before ↦ so_far.each k s before is
    | inr last ↦ let same : k ≡ n = omega (arith, lt, last) in (here s (ap (slice_get segments) (sym same) ∙ is)).0
  ];
  lists' = λ k s ps is there. elim (cases_lt k n) [
    | inl before ↦ so_far.lists' k s ps is (sym (get-front lists (patches ∷ []) k (omega (arith, before, so_far.count))) ∙ ap (λ (l : List (Vec code.Patch Global)). slice_get l k) (sym pushed) ∙ there)
    | inr last ↦
        let size : length new ≡ n + 1 = omega (arith, ap length pushed, length-append lists (patches ∷ []), so_far.count) in
        let same : k ≡ n = omega (arith, slice_get_within new k ps there, size, last) in
        let one : patches ≡ ps = list_same patches ps (sym (get-following lists (patches ∷ []) k 0 (omega (arith, same, so_far.count))) ∙ ap (λ (l : List (Vec code.Patch Global)). slice_get l k) (sym pushed) ∙ there) in
        let both = here s (ap (slice_get segments) (sym same) ∙ is) in
        record { whole = both.0; are = ap (λ (v : Vec code.Patch Global). map seen v.items) (sym one) ∙ both.1 }
  ];
}
  where
    list_same : (a b : Vec code.Patch Global) → Some a ≡ Some b → a ≡ b
    list_same a b e = cc

pub judged_all : (segments : List Segment) (n : ℕ) (lists : List (Vec code.Patch Global)) → Judged segments n lists → n ≡ length segments → (broken_in 1 (plain segments) ≡ None) × AreStretches segments lists
judged_all segments n lists so_far all = (
  none_is 1 segments (λ j t is. so_far.each j t (omega (arith, slice_get_within segments j t is, all)) is),
  record { count = so_far.count ∙ all; each = so_far.lists' },
)

-- ---- answers

pub of_some : (P : Vec code.Patch Global → Type 0) (found : Option (Vec code.Patch Global)) (patches : Vec code.Patch Global) → found ≡ Some patches → IfSome found P → P patches
of_some P None patches is has = absurd cc
of_some P (Some ps) patches is has = subst P (same ps patches is) has
  where
    same : (a b : Vec code.Patch Global) → Some a ≡ Some b → a ≡ b
    same a b e = cc

pub parted_at : (found which : Parted) (of : List Cell) → found ≡ which → IsParted of found → IsParted of which
parted_at found which of is has = subst (IsParted of) is has

pub first_there : (segments : List Segment) (place at : ℕ) (lists : List (Vec code.Patch Global)) → Judged segments place lists → place < length segments
    → ((s : Segment) → segment_at segments (place + 1) ≡ Some s → first_broken (cells s) ≡ Some at) → broken_in 1 (plain segments) ≡ Some (place + 1, at)
first_there segments place at lists so_far lt broken =
    let found = there segments place lt in
    let step : suc place ≡ place + 1 = omega arith in
    let same : 1 + place ≡ place + 1 = omega arith in
    first_is 1 segments place found.0 at found.1 (λ j t less is. so_far.each j t less is) (broken found.0 (subst (λ (n : ℕ). segment_at segments n ≡ Some found.0) step found.1))
    ∙ ap (λ (n : ℕ). some_place n at) same
  where
    there : (xs : List Segment) (k : ℕ) → k < length xs → (s : Segment) × (slice_get xs k ≡ Some s)
    there [] k lt' = absurd (omega arith)
    there (x ∷ xs) zero lt' = (x, refl)
    there (x ∷ xs) (suc k) lt' = there xs k (omega arith)
