-- No phase reports the cause Memory.
use Rattle.std.proofs.Common.{◌≡◌, ℕ, ◌+◌, Bool, true, false, List, [], ◌∷◌, Option, Some, None, refl, sym, ap, ◌∙◌}
use Rattle.std.specs.Prelude.{◌&&◌, not, nat_lt, ◌==◌, option_map, if◌then◌else◌}
use Rattle.std.specs.Option.{option_or}
use Rattle.load_meaning.specs.declared.load.LoadCause.{LoadCause}
use Rattle.load_meaning.specs.declared.load.LoadCause.TheVariants.{PatchOutside, NoSuchTarget, DynamicTarget, Memory}
use Rattle.load_meaning.specs.declared.load.LoadFault.{LoadFault}
use Rattle.omf_format.specs.Header.{first_of}
use Rattle.omf_format.specs.Record.{Record, End, Const, LongConst, Align, Org, Space, Reloc, InterSeg, ShortReloc, ShortInterSeg, Super, Using, Strong, Label, Equate, Formula, Entry}
use Rattle.omf_format.specs.File.{Segment}
use Rattle.load_meaning.specs.Cells.{Patch, patches_in}
use Rattle.load_meaning.specs.LoadTable.{is_place}
use Rattle.load_meaning.specs.Loadable.{patch_refusal, first_refusal, entry_refusal, first_target_fault}
use Rattle.load_meaning.specs.laws.Steps.{is_kept, is_dynamic_at, in_segment, target_refusal}

three : (a b c : Bool) → first_of {F = LoadCause} ((a, PatchOutside) ∷ (b, NoSuchTarget) ∷ (c, DynamicTarget) ∷ []) ≡ Some Memory → ⊥
three true b c e = cc
three false true c e = cc
three false false true e = cc
three false false false e = cc

named_patch : (segments : List Segment) (s : Segment) (p : Patch) → patch_refusal segments s p ≡ Some Memory → ⊥
unfolding patch_refusal
named_patch segments s p e = three (nat_lt s.fields.length (p.location + p.count)) (not (p.file == 1 && is_kept segments p.segment)) (not (p.segment == s.fields.seg_num) && is_dynamic_at segments p.segment) e

either : (a b : Option LoadCause) → (a ≡ Some Memory → ⊥) → (b ≡ Some Memory → ⊥) → option_or a b ≡ Some Memory → ⊥
either None b x y e = y e
either (Some cause) b x y e = x e

named_patches : (segments : List Segment) (s : Segment) (patches : List Patch) → first_refusal segments s patches ≡ Some Memory → ⊥
named_patches segments s [] e = cc
named_patches segments s (p ∷ patches) e = either (patch_refusal segments s p) (first_refusal segments s patches) (named_patch segments s p) (named_patches segments s patches) e

named_entry : (segments : List Segment) (r : Record) → entry_refusal segments r ≡ Some Memory → ⊥
named_entry segments (Entry number offset name) e = by_bool (is_place segments number offset) e
  where
    by_bool : (b : Bool) → (if b then None else Some NoSuchTarget) ≡ Some Memory → ⊥
    by_bool true e' = cc
    by_bool false e' = cc
named_entry segments End e = cc
named_entry segments (Const bytes) e = cc
named_entry segments (LongConst bytes) e = cc
named_entry segments (Space n) e = cc
named_entry segments (Reloc count shift location offset) e = cc
named_entry segments (InterSeg count shift location file segment offset) e = cc
named_entry segments (ShortReloc count shift location offset) e = cc
named_entry segments (ShortInterSeg count shift location segment offset) e = cc
named_entry segments (Super form bytes) e = cc
named_entry segments (Align n) e = cc
named_entry segments (Org n) e = cc
named_entry segments (Using name) e = cc
named_entry segments (Strong name) e = cc
named_entry segments (Label global name size form private) e = cc
named_entry segments (Equate global name size form private expr) e = cc
named_entry segments (Formula code count n expr) e = cc

abbrev some_cause : LoadCause → Option LoadCause
some_cause cause = Some cause

fault_same : (a b : LoadFault) → Some a ≡ Some b → a ≡ b
fault_same a b e = cc

-- a fault that phase 3 finds in records never has the cause Memory
pub named_targets : (segments : List Segment) (s : Segment) (founds : List (ℕ × Record)) (number : ℕ) (fault : LoadFault)
    → option_map (in_segment number) (first_target_fault segments s founds) ≡ Some fault → fault.cause ≡ Memory → ⊥
named_targets segments s [] number fault e memory = cc
named_targets segments s (found ∷ founds) number fault e memory = by_cause (target_refusal segments s found.1) refl e (λ rest. named_targets segments s founds number fault rest memory)
  where
    cause_of : (cause : LoadCause) (at : ℕ) → Some (in_segment number (cause, at)) ≡ Some fault → cause ≡ fault.cause
    cause_of cause at same = ap (λ (f : LoadFault). f.cause) (fault_same (in_segment number (cause, at)) fault same)

    by_cause : (o : Option LoadCause) → o ≡ target_refusal segments s found.1
        → option_map (in_segment number) (option_or (option_map (λ (cause : LoadCause). (cause, found.0)) o) (first_target_fault segments s founds)) ≡ Some fault
        → (option_map (in_segment number) (first_target_fault segments s founds) ≡ Some fault → ⊥) → ⊥
    by_cause None is e' rest = rest e'
    by_cause (Some cause) is e' rest =
        let cause-is : cause ≡ fault.cause = cause_of cause found.0 e' in
        either (entry_refusal segments found.1) (first_refusal segments s (patches_in s found.1)) (named_entry segments found.1) (named_patches segments s (patches_in s found.1)) (sym is ∙ ap (λ (c : LoadCause). some_cause c) (cause-is ∙ memory))
