-- No fault of a load file is Memory.
use Rattle.std.proofs.Common.{◌≡◌, ◌≢◌, inl, inr, ℕ, ◌+◌, Bool, true, false, cond, List, [], ◌∷◌, Option, Some, None, refl, ap, subst}
use Rattle.std.specs.Prelude.{option_map, nat_lt, not, ◌==◌, ◌&&◌, ◌||◌, codes, length}
use Rattle.std.specs.Str.{bytes_eq}
use Rattle.std.specs.Option.{option_map_or}
use Rattle.omf_format.specs.declared.fault.FileCause.{FileCause}
use Rattle.omf_format.specs.declared.fault.FileCause.TheVariants as files
use Rattle.load_meaning.specs.declared.load.LoadCause.{LoadCause}
use Rattle.load_meaning.specs.declared.load.LoadCause.TheVariants.{NotLoadFile, Unsupported, Sequence, DataTooLong, PatchOutside, NoSuchTarget, DynamicTarget, BadTable, Memory}
use Rattle.load_meaning.specs.declared.load.LoadFault.{LoadFault}
use Rattle.omf_format.specs.Header.{HeaderFields, form_of, is_skipped, is_dynamic}
use Rattle.omf_format.specs.Record.{Record, Align, Org, Using, Strong, Label, Equate, Formula, Entry}
use Rattle.omf_format.specs.File.{Segment, segment_at}
use Rattle.omf_format.specs.Body.{body_bytes}
use Rattle.load_meaning.specs.Cells.{Patch, patches_in}
use Rattle.load_meaning.specs.LoadTable.{is_table, is_place}
use Rattle.load_meaning.specs.Pathnames.{has_pathnames}
use Rattle.load_meaning.specs.Loadable.{Fault, segment_refusal, record_refusal, load_cause, first_in, shape_fault, patch_refusal, first_refusal, entry_refusal, first_target_fault, target_fault, pathnames_flaw, pathnames_fault, table_flaw, table_fault, later_fault}
use Rattle.load_meaning.specs.Runtime.{kind_fault, runtime_fault}
use Rattle.answers.specs.laws.Options.{same_some, mapped, either_some, first_among}

abbrev pub IsOther : LoadCause → Type 0
IsOther cause = cause ≢ Memory

pub file_cause : (cause : FileCause) → cause ≢ files.Memory → IsOther (load_cause cause)
file_cause files.Truncated other = λ e. cc
file_cause files.BadHeader other = λ e. cc
file_cause files.Unsupported other = λ e. cc
file_cause files.BadRecord other = λ e. cc
file_cause files.Memory other = absurd (other refl)

pub segment_cause : (f : HeaderFields) (cause : LoadCause) → segment_refusal f ≡ Some cause → IsOther cause
unfolding segment_refusal
segment_cause f cause e =
    let checks : List (Bool × LoadCause) =
    (bytes_eq f.name (codes "ExpressLoad") || bytes_eq f.name (126 ∷ codes "ExpressLoad"), Unsupported) ∷ (form_of f.kind == 0x08, NotLoadFile) ∷ [] in
    first_among IsOther checks cause (λ e. cc, (λ e. cc, tt)) e

is_not_load_file : (cause : LoadCause) → Some NotLoadFile ≡ Some cause → IsOther cause
is_not_load_file cause e = subst IsOther (same_some NotLoadFile cause e) (λ e. cc)

pub refused_cause : (r : Record) (cause : LoadCause) → record_refusal r ≡ Some cause → IsOther cause
refused_cause (Align n) cause e = is_not_load_file cause e
refused_cause (Org n) cause e = is_not_load_file cause e
refused_cause (Using name) cause e = is_not_load_file cause e
refused_cause (Strong name) cause e = is_not_load_file cause e
refused_cause (Label global name size form private) cause e = is_not_load_file cause e
refused_cause (Equate global name size form private expr) cause e = is_not_load_file cause e
refused_cause (Formula code count n expr) cause e = is_not_load_file cause e
refused_cause _ cause e = absurd cc

-- ---- the later phases

-- a phase has no fault that is Memory
abbrev HasOthers : (ℕ → Segment → Option Fault) → Type 0
HasOthers phase = (number : ℕ) (s : Segment) (fault : Fault) → phase number s ≡ Some fault → IsOther fault.0

first_cause : (phase : ℕ → Segment → Option Fault) (number : ℕ) (segments : List Segment) (fault : LoadFault) → HasOthers phase → first_in phase number segments ≡ Some fault → IsOther fault.cause
first_cause phase number [] fault others e = absurd cc
first_cause phase number (s ∷ segments) fault others e = elim (either_some _ (first_in phase (number + 1) segments) fault e) [
  | inl here ↦ let found = mapped _ (phase number s) fault here in subst IsOther (ap (λ (f : LoadFault). f.cause) found.2) (others number s found.0 found.1)
  | inr later ↦ first_cause phase (number + 1) segments fault others later
]

shape_others : HasOthers shape_fault
unfolding shape_fault
shape_others number s fault e =
    let checks : List (Bool × Fault) =
    (not (s.fields.seg_num == number), (Sequence, s.start)) ∷ (nat_lt s.fields.length (length (body_bytes s)), (DataTooLong, s.start)) ∷ [] in
    first_among (λ (f : Fault). IsOther f.0) checks fault (λ e. cc, (λ e. cc, tt)) e

patch_cause : (segments : List Segment) (s : Segment) (p : Patch) (cause : LoadCause) → patch_refusal segments s p ≡ Some cause → IsOther cause
unfolding patch_refusal
patch_cause segments s p cause e =
    let checks : List (Bool × LoadCause) =
    (nat_lt s.fields.length (p.location + p.count), PatchOutside)
    ∷ (not (p.file == 1 && option_map_or (λ t. not (is_skipped t.fields.kind)) (segment_at segments p.segment) false), NoSuchTarget)
    ∷ (not (p.segment == s.fields.seg_num) && option_map_or (λ t. is_dynamic t.fields.kind) (segment_at segments p.segment) false, DynamicTarget)
    ∷ [] in
    first_among IsOther checks cause (λ e. cc, (λ e. cc, (λ e. cc, tt))) e

patches_cause : (segments : List Segment) (s : Segment) (patches : List Patch) (cause : LoadCause) → first_refusal segments s patches ≡ Some cause → IsOther cause
patches_cause segments s [] cause e = absurd cc
patches_cause segments s (p ∷ patches) cause e = elim (either_some (patch_refusal segments s p) (first_refusal segments s patches) cause e) [
  | inl here ↦ patch_cause segments s p cause here
  | inr later ↦ patches_cause segments s patches cause later
]

entry_cause : (segments : List Segment) (r : Record) (cause : LoadCause) → entry_refusal segments r ≡ Some cause → IsOther cause
entry_cause segments (Entry number offset name) cause e = cases (is_place segments number offset) e
  where
    cases : (b : Bool) → cond b None (Some NoSuchTarget) ≡ Some cause → IsOther cause
    cases true e = absurd cc
    cases false e = subst IsOther (same_some NoSuchTarget cause e) (λ e. cc)
entry_cause segments _ cause e = absurd cc

targets_cause : (segments : List Segment) (s : Segment) (founds : List (ℕ × Record)) (fault : Fault) → first_target_fault segments s founds ≡ Some fault → IsOther fault.0
targets_cause segments s [] fault e = absurd cc
targets_cause segments s (found ∷ founds) fault e = elim (either_some _ (first_target_fault segments s founds) fault e) [
  | inl here ↦ let of = mapped (λ (cause : LoadCause). (cause, found.0)) _ fault here in
      let is : IsOther of.0 = elim (either_some (entry_refusal segments found.1) (first_refusal segments s (patches_in s found.1)) of.0 of.1) [
        | inl entry ↦ entry_cause segments found.1 of.0 entry
        | inr patches ↦ patches_cause segments s (patches_in s found.1) of.0 patches
      ] in
      subst IsOther (ap (λ (f : Fault). f.0) of.2) is
  | inr later ↦ targets_cause segments s founds fault later
]

target_others : (segments : List Segment) → HasOthers (target_fault segments)
target_others segments number s fault e = targets_cause segments s s.records fault e

-- only a bad table
table_only : (b : Bool) (flaw : Option ℕ) (cause : LoadCause) (fault : Fault) → IsOther cause → cond b (option_map (λ (at : ℕ). (cause, at)) flaw) None ≡ Some fault → IsOther fault.0
table_only true flaw cause fault other e = let of = mapped (λ (at : ℕ). (cause, at)) flaw fault e in subst IsOther (ap (λ (f : Fault). f.0) of.2) other
table_only false flaw cause fault other e = absurd cc

pathnames_others : (segments : List Segment) → HasOthers (pathnames_fault segments)
pathnames_others segments number s fault e = table_only (has_pathnames s) (pathnames_flaw segments number s) BadTable fault (λ e. cc) e

table_others : (segments : List Segment) → HasOthers (table_fault segments)
table_others segments number s fault e = table_only (is_table s) (table_flaw segments number s) BadTable fault (λ e. cc) e

pub later_cause : (segments : List Segment) (fault : LoadFault) → later_fault segments ≡ Some fault → IsOther fault.cause
unfolding later_fault
later_cause segments fault e = elim (either_some (first_in shape_fault 1 segments) _ fault e) [
  | inl here ↦ first_cause shape_fault 1 segments fault shape_others here
  | inr more ↦ elim (either_some (first_in (target_fault segments) 1 segments) _ fault more) [
    | inl here ↦ first_cause (target_fault segments) 1 segments fault (target_others segments) here
    | inr more ↦ elim (either_some (first_in (pathnames_fault segments) 1 segments) (first_in (table_fault segments) 1 segments) fault more) [
      | inl here ↦ first_cause (pathnames_fault segments) 1 segments fault (pathnames_others segments) here
      | inr here ↦ first_cause (table_fault segments) 1 segments fault (table_others segments) here
    ]
  ]
]

kind_others : HasOthers kind_fault
kind_others number s fault e = cases _ e
  where
    cases : (b : Bool) → cond b None (Some (NotLoadFile, s.start)) ≡ Some fault → IsOther fault.0
    cases true e = absurd cc
    cases false e = subst (λ (f : Fault). IsOther f.0) (same_some (NotLoadFile, s.start) fault e) (λ e. cc)

pub runtime_cause : (segments : List Segment) (fault : LoadFault) → runtime_fault segments ≡ Some fault → IsOther fault.cause
unfolding runtime_fault
runtime_cause segments fault e = first_cause kind_fault 1 segments fault kind_others e
