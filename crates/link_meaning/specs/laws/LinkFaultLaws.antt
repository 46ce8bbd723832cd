-- There is one first fault at most, and none where the files are resolved.
use Rattle.std.proofs.Common.{◌≡◌, ℕ, ◌+◌, List, [], ◌∷◌, length, Option, Some, None, Result, Ok, Err, refl, sym, ap, subst, ◌∙◌}
use Rattle.omf_format.specs.declared.fault.FileFault.{FileFault}
use Rattle.omf_format.specs.File.{Segment}
use Rattle.omf_format.specs.laws.FileLaws.{file_same, no_file, one_first_fault}
use Rattle.link_meaning.specs.declared.fault.LinkCause.{LinkCause}
use Rattle.link_meaning.specs.declared.fault.LinkCause.TheVariants.{BadLibrary, TooManySegments}
use Rattle.omf_base.specs.declared.spot.Spot.{Spot}
use Rattle.link_meaning.specs.declared.fault.LinkFault.{LinkFault}
use Rattle.link_meaning.specs.First.{IsFirst}
use Rattle.link_meaning.specs.laws.FirstLaws.{HasOne, one_first}
use Rattle.link_meaning.specs.Member.{OfferedRow, Input, Member, RuntimeFile, LinkSetting}
use Rattle.link_meaning.specs.declared.form.LinkForm.{LinkForm}
use Rattle.load_meaning.specs.declared.load.LoadFault.{LoadFault}
use Rattle.load_meaning.specs.laws.LoadableLaws.{loadable_same, loadable_sound, first_fault_same}
use Rattle.load_meaning.specs.Runtime.{runtime_fault, IsFirstRuntimeFault, OfLoading, OfKind}
use Rattle.link_meaning.specs.LinkedList.{all_uses, IsLinked}
use Rattle.link_meaning.specs.laws.LinkedListLaws.{one_linked_list}
use Rattle.link_meaning.specs.Layout.{load_members, load_headers}
use Rattle.link_meaning.specs.LinkFaults.{LinkInput, link_cause, segments_fault, rows_in_file, HasFileFault, OfFile, OfSegment, OfDictionary, IsInput, AreInputs, IsProgram, HasUseFault, HasOrgFault, first_spot, HasCountFault, HasLengthFault, Orgs, Count, Lengths, HasLayoutFault, Reading, Objects, Names, Layout, HasPhaseFault, IsFirstResolveFault, IsResolved, IsSetting, AreRuntimes, HasKindFault, Kinds, OfInput, OfRuntime, HasPartFault, runtime_cause}
use Rattle.link_meaning.specs.laws.Steps.{parts_of, phases}

abbrev some : {A : Type 0} → A → Option A
some x = Some x

some_same : {A : Type 0} → (a b : A) → some a ≡ some b → a ≡ b
some_same a b e = cc

abbrev failed : {A E : Type 0} → E → Result A E
failed e = Err e

failed_same : {A E : Type 0} → (a b : E) → failed {A = A} a ≡ failed b → a ≡ b
failed_same a b e = cc

abbrev fine : {A E : Type 0} → A → Result A E
fine x = Ok x

fine_same : {A E : Type 0} → (a b : A) → fine {E = E} a ≡ fine b → a ≡ b
fine_same a b e = cc

-- ---- reading

one_file_fault : (file : ℕ) (bytes : List ℕ) (a b : LinkFault) → HasFileFault file bytes a → HasFileFault file bytes b → a ≡ b
one_file_fault file bytes a b (OfFile x is says) (OfFile y is' says') =
    says ∙ ap (λ (f : FileFault). record { cause = link_cause f.cause; name = None; spot = record { file = file; segment = f.segment; at = f.at } }) (one_first_fault bytes x y is is') ∙ sym says'
one_file_fault file bytes a b (OfFile x is says) (OfSegment segments found is' has says') = absurd (no_file bytes x segments is is')
one_file_fault file bytes a b (OfFile x is says) (OfDictionary segments at is' none has says') = absurd (no_file bytes x segments is is')
one_file_fault file bytes a b (OfSegment segments found is has says) (OfFile x is' says') = absurd (no_file bytes x segments is' is)
one_file_fault file bytes a b (OfSegment s f is has says) (OfSegment t g is' has' says') =
    let same : s ≡ t = file_same s t bytes is is' in
    let found : f ≡ g = some_same f g (sym has ∙ ap (segments_fault 1) same ∙ has') in
    says ∙ ap (λ (h : ℕ × (LinkCause × ℕ)). record { cause = h.1.0; name = None; spot = record { file = file; segment = h.0; at = h.1.1 } }) found ∙ sym says'
one_file_fault file bytes a b (OfSegment s f is has says) (OfDictionary t at is' none has' says') =
    let same : s ≡ t = file_same s t bytes is is' in
    let clash : some f ≡ None = sym has ∙ ap (segments_fault 1) same ∙ none in
    cc
one_file_fault file bytes a b (OfDictionary segments at is none has says) (OfFile x is' says') = absurd (no_file bytes x segments is' is)
one_file_fault file bytes a b (OfDictionary s at is none has says) (OfSegment t g is' has' says') =
    let same : s ≡ t = file_same s t bytes is is' in
    let clash : some g ≡ None = sym has' ∙ ap (segments_fault 1) (sym same) ∙ none in
    cc
one_file_fault file bytes a b (OfDictionary s at is none has says) (OfDictionary t at' is' none' has' says') =
    let same : s ≡ t = file_same s t bytes is is' in
    let place : at ≡ at' = failed_same at at' (sym has ∙ ap rows_in_file same ∙ has') in
    says ∙ ap (λ (n : ℕ). record { cause = BadLibrary; name = None; spot = record { file = file; segment = 1; at = n } }) place ∙ sym says'

-- ---- inputs and the list

one_input : (bytes : List ℕ) (a b : Input) → IsInput bytes a → IsInput bytes b → a ≡ b
one_input bytes a b p q =
    let same : a.segments ≡ b.segments = file_same a.segments b.segments bytes p.is_file q.is_file in
    let rows : a.rows ≡ b.rows = fine_same a.rows b.rows (sym p.rows ∙ ap rows_in_file same ∙ q.rows) in
    ap (λ (s : List Segment). input s a.rows) same ∙ ap (λ (r : List OfferedRow). input b.segments r) rows
  where
    input : List Segment → List OfferedRow → Input
    input segments rows = record { segments = segments; rows = rows }

pub inputs_same : (files : List (List ℕ)) (a b : List Input) → AreInputs files a → AreInputs files b → a ≡ b
inputs_same [] [] [] p q = refl
inputs_same [] [] (b ∷ bs) p q = absurd q
inputs_same [] (a ∷ as') bs p q = absurd p
inputs_same (f ∷ files) [] bs p q = absurd p
inputs_same (f ∷ files) (a ∷ as') [] p q = absurd q
inputs_same (f ∷ files) (a ∷ as') (b ∷ bs) p q =
    ap (λ (i : Input). i ∷ as') (one_input f a b p.0 q.0) ∙ ap (λ (l : List Input). b ∷ l) (inputs_same files as' bs p.1 q.1)

pub runtimes_same : (files : List (List ℕ × List ℕ)) (a b : List RuntimeFile) → AreRuntimes files a → AreRuntimes files b → a ≡ b
runtimes_same [] [] [] p q = refl
runtimes_same [] [] (y ∷ b) p q = absurd q
runtimes_same [] (x ∷ a) b p q = absurd p
runtimes_same (f ∷ files) [] b p q = absurd p
runtimes_same (f ∷ files) (x ∷ a) [] p q = absurd q
runtimes_same (f ∷ files) (x ∷ a) (y ∷ b) p q =
    let segments : x.segments ≡ y.segments = loadable_same f.1 x.segments y.segments p.1.loadable q.1.loadable in
    let one : x ≡ y = ap (λ (path : List ℕ). runtime_of path x.segments) (p.0 ∙ sym q.0) ∙ ap (λ (s : List Segment). runtime_of y.path s) segments in
    ap (λ (r : RuntimeFile). r ∷ a) one ∙ ap (λ (l : List RuntimeFile). y ∷ l) (runtimes_same files a b p.2 q.2)
  where
    runtime_of : List ℕ → List Segment → RuntimeFile
    runtime_of path segments = record { path = path; segments = segments }

pub setting_same : (given : LinkInput) (a b : LinkSetting) → IsSetting given a → IsSetting given b → a ≡ b
setting_same given a b p q =
    ap (λ (f : LinkForm). setting_of f a.runtimes) (p.form' ∙ sym q.form') ∙ ap (λ (r : List RuntimeFile). setting_of b.form r) (runtimes_same given.runtimes a.runtimes b.runtimes p.runtimes' q.runtimes')
  where
    setting_of : LinkForm → List RuntimeFile → LinkSetting
    setting_of form runtimes = record { form = form; runtimes = runtimes }

-- a run-time library file has one first fault
one_runtime_fault : (file : List ℕ) (a b : LoadFault) → IsFirstRuntimeFault file a → IsFirstRuntimeFault file b → a ≡ b
one_runtime_fault file a b (OfLoading p) (OfLoading q) = first_fault_same file a b p q
one_runtime_fault file a b (OfLoading p) (OfKind segments is q) = absurd (loadable_sound file segments a is p)
one_runtime_fault file a b (OfKind segments is p) (OfLoading q) = absurd (loadable_sound file segments b is q)
one_runtime_fault file a b (OfKind segments is p) (OfKind other is' q) =
    some_load a b (sym p ∙ ap runtime_fault (loadable_same file segments other is is') ∙ q)
  where
    some_load : (a b : LoadFault) → Some a ≡ Some b → a ≡ b
    some_load a b e = cc

pub one_program : (files : LinkInput) (a b : List Member) → IsProgram files a → IsProgram files b → a ≡ b
one_program files a b p q =
    let same : p.inputs ≡ q.inputs = inputs_same files.inputs p.inputs q.inputs p.are_inputs q.are_inputs in
    let settings = setting_same files p.setting q.setting p.is_setting q.is_setting in
    one_linked_list q.setting q.inputs a b (subst (λ (i : List Input). IsLinked q.setting i a) same (subst (λ (s : LinkSetting). IsLinked s p.inputs a) settings p.linked)) q.linked

-- ---- the phases

abbrev fault_of : LinkCause → Option (List ℕ) → Spot → LinkFault
fault_of cause name spot = record { cause = cause; name = name; spot = spot }

fault_same : (a b : LinkFault) → a.cause ≡ b.cause → a.name ≡ b.name → a.spot ≡ b.spot → a ≡ b
fault_same a b c n s =
    ap (λ (x : LinkCause). fault_of x a.name a.spot) c ∙ ap (λ (x : Option (List ℕ)). fault_of b.cause x a.spot) n ∙ ap (λ (x : Spot). fault_of b.cause b.name x) s

one_use : (list : List Member) → HasOne (HasUseFault list)
one_use list before u a b p q =
    fault_same a b (some_same a.cause b.cause (sym p.cause ∙ q.cause)) (p.name ∙ sym q.name) (p.spot ∙ sym q.spot)

one_org : HasOne HasOrgFault
one_org before m a b p q = p.reported ∙ sym q.reported

one_length : (list : List Member) → HasOne (HasLengthFault list)
one_length list before f a b p q = p.reported ∙ sym q.reported

one_kind : (list : List Member) → HasOne (HasKindFault list)
one_kind list before f a b p q = p.reported ∙ sym q.reported

one_count : (list : List Member) (a b : LinkFault) → HasCountFault list a → HasCountFault list b → a ≡ b
one_count list a b p q =
    let same : p.load_name ≡ q.load_name = some_same p.load_name q.load_name (sym p.there ∙ q.there) in
    p.reported ∙ ap (λ (x : List ℕ). fault_of TooManySegments None (first_spot (load_members x list))) same ∙ sym q.reported

one_layout : (list : List Member) → HasOne (HasLayoutFault list)
one_layout list before Orgs a b p q = one_first HasOrgFault list a b one_org p q
one_layout list before Count a b p q = one_count list a b p q
one_layout list before Lengths a b p q = one_first (HasLengthFault list) (load_headers list) a b (one_length list) p q
one_layout list before Kinds a b p q = one_first (HasKindFault list) (load_headers list) a b (one_kind list) p q

one_part : HasOne HasPartFault
one_part before (OfInput bytes) a b p q = one_file_fault (length before + 1) bytes a b p q
one_part before (OfRuntime bytes) a b p q =
    let same : p.found ≡ q.found = one_runtime_fault bytes p.found q.found p.first q.first in
    p.reported ∙ ap (λ (f : LoadFault). fault_of (runtime_cause f.cause) None (record { file = length before + 1; segment = f.segment; at = f.at })) same ∙ sym q.reported

one_phase : (files : LinkInput) → HasOne (HasPhaseFault files)
one_phase files before Reading a b p q =
    one_first HasPartFault (parts_of files) a b one_part p q
one_phase files before Objects a b p q = p.5 ∙ sym q.5
one_phase files before Names a b p q =
    let same : p.0 ≡ q.0 = one_program files p.0 q.0 p.1 q.1 in
    one_first (HasUseFault q.0) (all_uses q.0) a b (one_use q.0) (subst (λ (l : List Member). IsFirst (HasUseFault l) (all_uses l) a) same p.2) q.2
one_phase files before Layout a b p q =
    let same : p.0 ≡ q.0 = one_program files p.0 q.0 p.1 q.1 in
    one_first (HasLayoutFault q.0) (Orgs ∷ Count ∷ Lengths ∷ Kinds ∷ []) a b (one_layout q.0)
    (subst (λ (l : List Member). IsFirst (HasLayoutFault l) (Orgs ∷ Count ∷ Lengths ∷ Kinds ∷ []) a) same p.2) q.2

-- there is one first fault at most
pub one_resolve_fault : (files : LinkInput) (a b : LinkFault) → IsFirstResolveFault files a → IsFirstResolveFault files b → a ≡ b
one_resolve_fault files a b p q = one_first (HasPhaseFault files) phases a b (one_phase files) p q

-- files that are resolved have none
pub resolved_sound : (files : LinkInput) (list : List Member) (fault : LinkFault) → IsResolved files list → IsFirstResolveFault files fault → ⊥
resolved_sound files list fault is p = is.sound p.before p.item p.after fault p.parts p.here
