-- The first fault of the phases.
use Rattle.std.proofs.Common.{◌≡◌, ℕ, List, [], ◌∷◌, ◌++◌, length, Option, Some, None, refl, sym, ap, subst, ◌∙◌}
use Rattle.std.specs.Prelude.{slice_get}
use Rattle.omf_base.specs.declared.spot.Spot.{Spot}
use Rattle.link_meaning.specs.declared.fault.LinkCause.{LinkCause}
use Rattle.link_meaning.specs.declared.fault.LinkFault.{LinkFault}
use Rattle.link_meaning.specs.declared.fault.LinkCause.TheVariants.{Empty}
use Rattle.link_meaning.specs.First.{HasNone, IsFirst}
use Rattle.link_meaning.specs.laws.FirstLaws.{none_more, none_yet}
use Rattle.link_meaning.specs.Member.{Input, LinkSetting, Member, objects}
use Rattle.link_meaning.specs.LinkedList.{PlacedUse, all_uses}
use Rattle.link_meaning.specs.LinkFaults.{LinkInput, no_spot, HasPartFault, IsSetting, AreInputs, IsProgram, HasUseFault, HasLayoutFault, Phase, Reading, Objects, Names, Layout, HasPhaseFault, IsFirstResolveFault, IsResolved}
use Rattle.link_meaning.specs.laws.Steps.{parts_of}
use Rattle.link_meaning.specs.laws.LinkFaultLaws.{inputs_same, setting_same, one_program}
use Rattle.link_resolve.proofs.PartLaws.{none_parts}
use Rattle.link_tables.specs.declared.definitions.Origin.{Origin}
use Rattle.link_tables.specs.Definitions.{IsOf}
use Rattle.link_program.specs.Resolving.{FailsToResolve, IsFirstUse}
use Rattle.link_tables.specs.Laid.{layout_checks}

-- ---- the phases

no_reading : (given : LinkInput) (inputs : List Input) (setting : LinkSetting) (before : List Phase) (its : LinkFault) → IsSetting given setting → AreInputs given.inputs inputs → HasPhaseFault given before Reading its → ⊥
no_reading given inputs setting before its with' are p = none_parts given inputs setting.runtimes are with'.runtimes' p.before p.item p.after its p.parts p.here

no_objects : (given : LinkInput) (inputs : List Input) (setting : LinkSetting) (before : List Phase) (its : LinkFault) → IsSetting given setting → AreInputs given.inputs inputs → (objects setting inputs ≡ [] → ⊥)
    → HasPhaseFault given before Objects its → ⊥
no_objects given inputs setting before its with' are some p =
    some (ap (λ (s : LinkSetting). objects s inputs) (setting_same given setting p.0 with' p.2) ∙ ap (objects p.0) (inputs_same given.inputs inputs p.1 are p.3) ∙ p.4)

no_names : (given : LinkInput) (list : List Member) (before : List Phase) (its : LinkFault) → IsProgram given list → HasNone (HasUseFault list) (all_uses list) → HasPhaseFault given before Names its → ⊥
no_names given list before its is none p =
    let same = one_program given p.0 list p.1 is in
    let q : IsFirst (HasUseFault list) (all_uses list) its = subst (λ (l : List Member). IsFirst (HasUseFault l) (all_uses l) its) same p.2 in
    none q.before q.item q.after its q.parts q.here

no_layout : (given : LinkInput) (list : List Member) (before : List Phase) (its : LinkFault) → IsProgram given list → HasNone (HasLayoutFault list) layout_checks → HasPhaseFault given before Layout its → ⊥
no_layout given list before its is none p =
    let same = one_program given p.0 list p.1 is in
    let q : IsFirst (HasLayoutFault list) layout_checks its = subst (λ (l : List Member). IsFirst (HasLayoutFault l) layout_checks its) same p.2 in
    none q.before q.item q.after its q.parts q.here

abbrev upto_reading : List Phase
upto_reading = Reading ∷ []

abbrev upto_objects : List Phase
upto_objects = Reading ∷ Objects ∷ []

abbrev upto_names : List Phase
upto_names = Reading ∷ Objects ∷ Names ∷ []

none_reading : (given : LinkInput) (inputs : List Input) (setting : LinkSetting) → IsSetting given setting → AreInputs given.inputs inputs → HasNone (HasPhaseFault given) upto_reading
none_reading given inputs setting with' are = none_more (HasPhaseFault given) [] Reading (none_yet (HasPhaseFault given)) (λ its. no_reading given inputs setting [] its with' are)

none_objects : (given : LinkInput) (inputs : List Input) (setting : LinkSetting) → IsSetting given setting → AreInputs given.inputs inputs → (objects setting inputs ≡ [] → ⊥) → HasNone (HasPhaseFault given) upto_objects
none_objects given inputs setting with' are some =
    none_more (HasPhaseFault given) upto_reading Objects (none_reading given inputs setting with' are) (λ its. no_objects given inputs setting upto_reading its with' are some)

none_names : (given : LinkInput) (inputs : List Input) (setting : LinkSetting) (list : List Member) → IsSetting given setting → AreInputs given.inputs inputs → (objects setting inputs ≡ [] → ⊥) → IsProgram given list
    → HasNone (HasUseFault list) (all_uses list) → HasNone (HasPhaseFault given) upto_names
none_names given inputs setting list with' are some is none =
    none_more (HasPhaseFault given) upto_objects Names (none_objects given inputs setting with' are some) (λ its. no_names given list upto_objects its is none)

pub at_reading : (given : LinkInput) (fault : LinkFault) → IsFirst HasPartFault (parts_of given) fault → IsFirstResolveFault given fault
at_reading given fault first = record { before = []; item = Reading; after = Objects ∷ Names ∷ Layout ∷ []; parts = refl; none = none_yet (HasPhaseFault given); here = first }

pub at_objects : (given : LinkInput) (inputs : List Input) (setting : LinkSetting) (fault : LinkFault) → IsSetting given setting → AreInputs given.inputs inputs → objects setting inputs ≡ []
    → fault ≡ record { cause = Empty; name = None; spot = no_spot } → IsFirstResolveFault given fault
at_objects given inputs setting fault with' are empty reported = record {
  before = upto_reading;
  item = Objects;
  after = Names ∷ Layout ∷ [];
  parts = refl;
  none = none_reading given inputs setting with' are;
  here = (setting, inputs, with', are, empty, reported);
}

pub at_names : (given : LinkInput) (inputs : List Input) (setting : LinkSetting) (list : List Member) (fault : LinkFault) → IsSetting given setting → AreInputs given.inputs inputs → (objects setting inputs ≡ [] → ⊥) → IsProgram given list
    → IsFirst (HasUseFault list) (all_uses list) fault → IsFirstResolveFault given fault
at_names given inputs setting list fault with' are some is first = record {
  before = upto_objects;
  item = Names;
  after = Layout ∷ [];
  parts = refl;
  none = none_objects given inputs setting with' are some;
  here = (list, is, first);
}

pub at_layout : (given : LinkInput) (inputs : List Input) (setting : LinkSetting) (list : List Member) (fault : LinkFault) → IsSetting given setting → AreInputs given.inputs inputs → (objects setting inputs ≡ [] → ⊥) → IsProgram given list
    → HasNone (HasUseFault list) (all_uses list) → IsFirst (HasLayoutFault list) layout_checks fault → IsFirstResolveFault given fault
at_layout given inputs setting list fault with' are some is none first = record {
  before = upto_names;
  item = Layout;
  after = [];
  parts = refl;
  none = none_names given inputs setting list with' are some is none;
  here = (list, is, first);
}

pub all_sound : (given : LinkInput) (inputs : List Input) (setting : LinkSetting) (list : List Member) → IsSetting given setting → AreInputs given.inputs inputs → (objects setting inputs ≡ [] → ⊥) → IsProgram given list
    → HasNone (HasUseFault list) (all_uses list) → HasNone (HasLayoutFault list) layout_checks → IsResolved given list
all_sound given inputs setting list with' are some is none sound = record {
  program = is;
  sound = none_more (HasPhaseFault given) upto_names Layout (none_names given inputs setting list with' are some is none) (λ its. no_layout given list upto_names its is sound);
}

-- ---- uses

abbrev some : {A : Type 0} → A → Option A
some x = Some x

pub middle_at : {A : Type 0} → (xs : List A) (y : A) (ys : List A) → slice_get (xs ++ y ∷ ys) (length xs) ≡ Some y
middle_at [] y ys = refl
middle_at (x ∷ xs) y ys = middle_at xs y ys

-- where none fails to resolve there is no fault
pub none_used : (list : List Member) (uses : List PlacedUse) → HasNone (FailsToResolve list) uses → HasNone (HasUseFault list) uses
none_used list uses none front other rest its e has = none front other rest its.cause e has.cause

pub use_at : (list : List Member) (cause : LinkCause) (number : ℕ) (first : IsFirstUse list cause number) → slice_get (all_uses list) number ≡ Some first.use'
use_at list cause number first =
    ap (λ (l : List PlacedUse). slice_get l number) first.parts ∙ ap (slice_get (first.before ++ first.use' ∷ first.after)) (sym first.place) ∙ middle_at first.before first.use' first.after

abbrev spot_at : ℕ → ℕ → ℕ → Spot
spot_at file segment at = record { file = file; segment = segment; at = at }

pub first_used : (list : List Member) (cause : LinkCause) (number : ℕ) (origin : Origin) (name : List ℕ) (at : ℕ) (fault : LinkFault) (first : IsFirstUse list cause number) → IsOf first.use'.member origin
    → name ≡ first.use'.use'.name → at ≡ first.use'.use'.at
    → fault ≡ record { cause = cause; name = Some name; spot = record { file = origin.file; segment = origin.segment; at = at } } → IsFirst (HasUseFault list) (all_uses list) fault
first_used list cause number origin name at fault first of named placed reported = record {
  before = first.before;
  item = first.use';
  after = first.after;
  parts = first.parts;
  none = none_used list first.before first.none;
  here = record {
    cause = first.fails ∙ ap (λ (f : LinkFault). Some f.cause) (sym reported);
    name = ap (λ (f : LinkFault). f.name) reported ∙ ap some named;
    spot =
        ap (λ (f : LinkFault). f.spot) reported
        ∙ ap (λ (n : ℕ). spot_at n origin.segment at) (sym of.0)
        ∙ ap (λ (n : ℕ). spot_at first.use'.member.file n at) (sym of.1)
        ∙ ap (spot_at first.use'.member.file first.use'.member.number) placed;
  };
}
