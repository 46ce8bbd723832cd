-- The steps of resolving, put together.
use Rattle.std.proofs.Common.{◌≡◌, inl, inr, ℕ, suc, ◌+◌, ◌*◌, ◌≤◌, ◌<◌, ◌^◌, List, [], ◌∷◌, ◌++◌, length, get_or, map, take, drop, Option, Some, None, refl, sym, ap, subst, ◌∙◌, arith}
use Rattle.std.specs.Prelude.{slice_get, option_map, Vec}
use Rattle.std.specs.List.{AllByRecursion}
use Rattle.std.specs.Global.{Global}
use Rattle.std.proofs.lemmas.List.{length-map, length-take-le, take-append-drop}
use Rattle.std.proofs.lemmas.Option.{slice_get_within, slice_get-map, slice_get_read}
use Rattle.omf_format.specs.File.{Segment}
use Rattle.load_meaning.specs.Pathnames.{most_paths}
use Rattle.link_meaning.specs.declared.fault.LinkCause.TheVariants.{Empty}
use Rattle.link_meaning.specs.declared.fault.LinkFault.{LinkFault}
use Rattle.link_meaning.specs.declared.form.LinkForm.{LinkForm}
use Rattle.link_meaning.specs.declared.form.LinkForm.TheVariants.{Program, Runtime as LibraryForm}
use Rattle.lib_dict.specs.declared.member.Member as held
use Rattle.link_meaning.specs.First.{HasNone, IsFirst}
use Rattle.link_meaning.specs.Member.{Input, LinkSetting, without_runtimes, setting_in, objects}
use Rattle.link_meaning.specs.Search.{outside, outside_from}
use Rattle.link_meaning.specs.LinkedList.{all_uses}
use Rattle.link_meaning.specs.LinkFaults.{LinkInput, HasBytes, MayHave, no_spot, IsInput, AreInputs, IsSetting, AreRuntimes, IsProgram, HasFileFault, HasUseFault, HasLayoutFault}
use Rattle.link_resolve.specs.declared.gather.Gathered as gathered
use Rattle.link_resolve.specs.Reading.{IsFileRefused}
use Rattle.omf_header.specs.View.{fields}
use Rattle.link_tables.specs.declared.layout.LinkLayout as laid
use Rattle.link_program.specs.declared.program.ResolvedProgram.{ResolvedProgram}
use Rattle.link_resolve.specs.Gathered.{IsGathered}
use Rattle.link_program.specs.Files.{AllAmong}
use Rattle.link_program.specs.Programs.{setting_of, IsKept, runtimes_of}
use Rattle.link_program.specs.Linked.{Holds}
use Rattle.link_program.specs.Grown.{MayGrow, HasGrown}
use Rattle.link_tables.specs.Laid.{layout_checks, Laid, AllShort, AreHeaders}
use Rattle.link_resolve.specs.Resolved.{all_bytes, total_size, AreFew, FewGiven, HasGathered, HasObjects, setting_as, IsReadAll, setting_grown, IsListOf, IsLaidOut, IsInputFault, IsUseFault, IsRefused}
use Rattle.link_resolve.specs.Runtimes.{files_of, AreRead, IsFirstFile, IsFirstRefused}
use Rattle.link_program.specs.Outside.{AreOutside, IsOutsideOf}
use Rattle.link_program.specs.declared.outside.OutsideNames.{OutsideNames}
use Rattle.link_resolve.specs.declared.resolving.InputsRead.{InputsRead}
use Rattle.link_resolve.specs.declared.resolving.Grown.{Grown}
use Rattle.link_tables.proofs.Lists.{drop_at, empty, take_more, take_all}
use Rattle.link_program.proofs.LinkedLaws.{count_is}
use Rattle.link_program.proofs.AmongLaws.{objects_among, offers_among, offers_sound, files_sound}
use Rattle.link_resolve.proofs.FewLaws.{few_more, all_fit}
use Rattle.link_tables.proofs.LayoutFaults.{loads_are, all_headers}
use Rattle.link_program.proofs.ProgramLaws.{kept_is}
use Rattle.link_resolve.proofs.InputLaws.{inputs_more}
use Rattle.link_resolve.proofs.PartLaws.{first_input, first_runtime}
use Rattle.link_program.proofs.GrowLaws.{setting_is}
use Rattle.link_resolve.proofs.PhaseLaws.{at_reading, at_objects, at_names, at_layout, all_sound}

-- ---- reading

pub total-take : (files : List (List ℕ)) (k : ℕ) (file : List ℕ) → slice_get files k ≡ Some file → total_size (take k files) + length file ≤ total_size files
total-take files k file at = omega (arith, total-append (take k files) (drop k files), ap total_size (take-append-drop k files), ap total_size (drop_at files k file at))
  where
    total-append : (xs ys : List (List ℕ)) → total_size (xs ++ ys) ≡ total_size xs + total_size ys
    total-append [] ys = omega arith
    total-append (x ∷ xs) ys = let rest = total-append xs ys in omega arith

inputs_count : (files : List (List ℕ)) (inputs : List Input) → AreInputs files inputs → length inputs ≡ length files
inputs_count [] [] are = refl
inputs_count [] (i ∷ inputs) are = absurd are
inputs_count (f ∷ files) [] are = absurd are
inputs_count (f ∷ files) (i ∷ inputs) are = ap suc (inputs_count files inputs are.1)

-- there is room for the next file
pub room_for : (files : List (List ℕ)) (k : ℕ) (file : List ℕ) (kept : gathered.Gathered) → HasGathered (take k files) kept → slice_get files k ≡ Some file → AreFew files
    → (length file + length kept.linked.members.items < 2 ^ 32) × (length kept.files.items + 1 < 2 ^ 32)
room_for files k file kept h at few =
    let fit = all_fit without_runtimes (take k files) h.0 h.1 h.2 in
    let count = count_is (objects without_runtimes h.0) kept.linked (h.3.objects' without_runtimes) in
    let within = slice_get_within files k file at in
    let inputs = inputs_count (take k files) h.0 h.1 in
    let size = length-take-le k files (omega (arith, within)) in
    (omega (arith, fit, count, total-take files k file at, few.1), omega (arith, ap length h.3.files, length-map h.0 (λ (i : Input). i.segments), inputs, size, within, few.0))

pub file_number : (files : List (List ℕ)) (k : ℕ) (file : List ℕ) (kept : gathered.Gathered) → HasGathered (take k files) kept → slice_get files k ≡ Some file → length kept.files.items ≡ length (take k files)
file_number files k file kept h at = ap length h.3.files ∙ length-map h.0 (λ (i : Input). i.segments) ∙ inputs_count (take k files) h.0 h.1

pub gathered_none : (kept : gathered.Gathered) → IsGathered [] kept → HasGathered [] kept
gathered_none kept g = ([], tt, tt, g)

pub gathered_next : (files : List (List ℕ)) (k : ℕ) (file : List ℕ) (old new : gathered.Gathered) (h : HasGathered (take k files) old) → slice_get files k ≡ Some file
    → ((input : Input) × IsInput file input × (12 * length input.rows ≤ length file) × IsGathered (h.0 ++ input ∷ []) new) → HasGathered (take (k + 1) files) new
gathered_next files k file old new h at more =
    subst (λ (l : List (List ℕ)). HasGathered l new) (sym (take_more files k file at))
    (h.0 ++ more.0 ∷ [], inputs_more (take k files) h.0 file more.0 h.1 more.1, few_more h.0 (take k files) more.0 file h.1 h.2 more.2, more.3)

pub refused_file : (files : List (List ℕ)) (k : ℕ) (file : List ℕ) (kept : gathered.Gathered) (fault : LinkFault) (h : HasGathered (take k files) kept) → slice_get files k ≡ Some file
    → IsFileRefused (length kept.files.items + 1) file fault → IsInputFault files fault
refused_file files k file kept fault h at (inl e) = inl e
refused_file files k file kept fault h at (inr has) = inr (record {
  before = take k files;
  item = file;
  after = drop (k + 1) files;
  parts = sym (take-append-drop k files) ∙ ap (λ (l : List (List ℕ)). take k files ++ l) (drop_at files k file at);
  inputs = h.0;
  are = h.1;
  here = subst (λ (n : ℕ). HasFileFault (n + 1) file fault) (file_number files k file kept h at) has;
})

-- ---- the list

pub few_inputs : (given : LinkInput) → FewGiven given → AreFew given.inputs
few_inputs given few = (omega (arith, few.files), omega (arith, few.bytes))

no_objects : (setting : LinkSetting) (files : List (List ℕ)) (kept : gathered.Gathered) (h : HasGathered files kept) → length kept.linked.members.items ≡ 0 → objects setting h.0 ≡ []
no_objects setting files kept h none = empty (objects setting h.0) (omega (arith, count_is (objects setting h.0) kept.linked (h.3.objects' setting), none))

some_objects : (setting : LinkSetting) (files : List (List ℕ)) (kept : gathered.Gathered) (h : HasGathered files kept) → (length kept.linked.members.items ≡ 0 → ⊥) → objects setting h.0 ≡ [] → ⊥
some_objects setting files kept h some none = some (count_is (objects setting h.0) kept.linked (h.3.objects' setting) ∙ ap length none)

pub may_grow : (setting : LinkSetting) (files : List (List ℕ)) (kept : gathered.Gathered) (table : OutsideNames) (segments : List (List Segment)) (h : HasObjects files kept) → segments ≡ kept.files.items → AreOutside (outside setting) table
    → total_size files < 2 ^ 32 → MayGrow setting h.0.0 segments table kept.offers kept.linked
may_grow setting files kept table segments h same far few =
    let g = h.0.3 in
    subst (λ (l : List (List Segment)). MayGrow setting h.0.0 l table kept.offers kept.linked) (sym same) record {
      objects' = g.objects' setting;
      some = some_objects setting files kept h.0 h.1;
      table' = far;
      offers' = g.offers' setting;
      few = omega (arith, all_fit setting files h.0.0 h.0.1 h.0.2, few);
      defined = offers_sound setting kept.files.items h.0.0 g.files g.sound;
      among = offers_among setting kept.files.items h.0.0 g.files g.sound;
      there = objects_among setting kept.files.items h.0.0 g.files;
      sound = files_sound kept.files.items h.0.0 g.files g.sound;
    }

pub few_members : (files : List (List ℕ)) (kept : gathered.Gathered) (h : HasGathered files kept) → AreFew files → length kept.linked.members.items < 2 ^ 32
few_members files kept h few = omega (arith, count_is (objects without_runtimes h.0) kept.linked (h.3.objects' without_runtimes), all_fit without_runtimes files h.0 h.1 h.2, few.1)

-- the table of what was read
pub far_of_read : (given : LinkInput) (read : InputsRead) → IsReadAll given read → AreOutside (outside (setting_as read.form read.runtimes.loads.items read.given.now)) read.runtimes.outside
unfolding outside
far_of_read given read is = is.runtimes'.table'

-- what was gathered grows to the list of what is given
pub list_of_read : (given : LinkInput) (read : InputsRead) (grown : Grown) (segments : List (List Segment)) (is : IsReadAll given read) → segments ≡ read.gathered.files.items → grown.files.items ≡ read.gathered.files.items
    → grown.form ≡ read.form → grown.given.now ≡ read.given.now → grown.runtimes ≡ read.runtimes → FewGiven given
    → ((setting : LinkSetting) (inputs : List Input) → MayGrow setting inputs segments read.runtimes.outside read.gathered.offers read.gathered.linked → HasGrown setting inputs segments grown.linked) → IsListOf given grown
list_of_read given read grown segments is same files form members runtimes few grows =
    let setting = setting_as read.form read.runtimes.loads.items read.given.now in
    let same_setting : setting_grown grown ≡ setting =
    ap (λ f. setting_as f grown.runtimes.loads.items grown.given.now) form ∙ ap (λ r. setting_as read.form r.loads.items grown.given.now) runtimes ∙ ap (λ l. setting_as read.form read.runtimes.loads.items l) members in
    let may = may_grow setting given.inputs read.gathered read.runtimes.outside segments is.inputs' same (far_of_read given read is) (few_inputs given few).1 in
    record {
      form' = form ∙ is.form';
      files = ap files_of members ∙ is.files;
      runtimes' = subst (λ l. AreRead l grown.runtimes.loads.items grown.runtimes.outside) (sym members) (subst (λ r. AreRead read.given.now r.loads.items r.outside) (sym runtimes) is.runtimes');
      inputs = is.inputs'.0.0;
      are_inputs = is.inputs'.0.1;
      some = subst (λ (s : LinkSetting). objects s is.inputs'.0.0 ≡ [] → ⊥) (sym same_setting) may.some;
      grown = subst (λ (s : LinkSetting). HasGrown s is.inputs'.0.0 grown.files.items grown.linked) (sym same_setting)
          (subst (λ (l : List (List Segment)). HasGrown setting is.inputs'.0.0 l grown.linked) (same ∙ sym files) (grows setting is.inputs'.0.0 may));
    }

is_setting : (given : LinkInput) (grown : Grown) (of : IsListOf given grown) → IsSetting given (setting_grown grown)
is_setting given grown of = record { form' = of.form'; runtimes' = subst (λ l. AreRuntimes l (runtimes_of grown.runtimes.loads.items grown.given.now)) of.files of.runtimes'.are }

is_program : (given : LinkInput) (grown : Grown) (of : IsListOf given grown) → IsProgram given of.grown.list
is_program given grown of = record { setting = setting_grown grown; is_setting = is_setting given grown of; inputs = of.inputs; are_inputs = of.are_inputs; linked = of.grown.is_linked }

-- the list's setting
pub list_setting : (given : LinkInput) (grown : Grown) (of : IsListOf given grown) → setting_in of.grown.list ≡ setting_grown grown
list_setting given grown of =
    let linked = of.grown.is_linked in
    ap setting_in linked.parts ∙ setting_is (setting_grown grown) of.inputs linked.added of.some

-- the table has the names that the list can find
pub list_outside : (given : LinkInput) (grown : Grown) (of : IsListOf given grown) → IsOutsideOf of.grown.list grown.runtimes.outside
unfolding outside
list_outside given grown of = subst (λ (s : LinkSetting). AreOutside (outside_from 2 s.runtimes) grown.runtimes.outside) (sym (list_setting given grown of)) of.runtimes'.table'

-- ---- the answers

pub refused_input : (given : LinkInput) (fault : LinkFault) → IsInputFault given.inputs fault → IsRefused given fault
refused_input given fault (inl e) = inl e
refused_input given fault (inr first) = inr (at_reading given fault (first_input given fault first))

pub refused_runtime : (given : LinkInput) (kept : gathered.Gathered) (fault : LinkFault) (n : ℕ) (files : List (List ℕ × List ℕ)) → n ≡ length given.inputs → files ≡ given.runtimes → HasGathered given.inputs kept → IsFirstRefused n files fault
    → IsRefused given fault
refused_runtime given kept fault n files count same h (inl e) = inl e
refused_runtime given kept fault n files count same h (inr first) =
    let there = subst (λ (m : ℕ). IsFirstFile m given.runtimes fault) count (subst (λ (l : List (List ℕ × List ℕ)). IsFirstFile n l fault) same first) in
    inr (at_reading given fault (first_runtime given fault h.0 h.1 there))

pub refused_empty : (given : LinkInput) (kept : gathered.Gathered) (setting : LinkSetting) (fault : LinkFault) (h : HasGathered given.inputs kept) → IsSetting given setting → length kept.linked.members.items ≡ 0
    → fault ≡ record { cause = Empty; name = None; spot = no_spot } → IsRefused given fault
refused_empty given kept setting fault h with' none reported = inr (at_objects given h.0 setting fault with' h.1 (no_objects setting given.inputs kept h none) reported)

pub refused_use : (given : LinkInput) (grown : Grown) (fault : LinkFault) (of : IsListOf given grown) → IsUseFault of.grown.list fault → IsRefused given fault
refused_use given grown fault of (inl e) = inl e
refused_use given grown fault of (inr first) =
    inr (at_names given of.inputs (setting_grown grown) of.grown.list fault (is_setting given grown of) of.are_inputs of.some (is_program given grown of) first)

pub refused_layout : (given : LinkInput) (grown : Grown) (fault : LinkFault) (of : IsListOf given grown) → HasNone (HasUseFault of.grown.list) (all_uses of.grown.list)
    → IsFirst (HasLayoutFault of.grown.list) layout_checks fault → IsRefused given fault
refused_layout given grown fault of none first =
    inr (at_layout given of.inputs (setting_grown grown) of.grown.list fault (is_setting given grown of) of.are_inputs of.some (is_program given grown of) none first)

pub laid_out : (given : LinkInput) (grown : Grown) (layout : laid.LinkLayout) (of : IsListOf given grown) → HasNone (HasUseFault of.grown.list) (all_uses of.grown.list) → HasNone (HasLayoutFault of.grown.list) layout_checks
    → Laid of.grown.list layout → (length layout.loads.items ≤ 254) × AllShort layout.loads.items → IsLaidOut given of.grown.list layout
laid_out given grown layout of none sound laid fine = record {
  resolved = all_sound given of.inputs (setting_grown grown) of.grown.list (is_setting given grown of) of.are_inputs of.some (is_program given grown of) none sound;
  laid = laid;
  few = fine.0;
  short = fine.1;
}

-- the bytes of a file at a place
pub file_there : (read items : List (Vec ℕ Global)) (k : ℕ) (v : Vec ℕ Global) (bytes : List ℕ) → read ≡ items → k < length read → v ≡ get_or read k v → bytes ≡ v.items → slice_get (all_bytes items) k ≡ Some bytes
file_there read items k v bytes same less is held =
    let some : List ℕ → Option (List ℕ) = λ x. Some x in
    slice_get-map (λ (f : Vec ℕ Global). f.items) items k
    ∙ ap (option_map (λ (f : Vec ℕ Global). f.items)) (ap (λ (l : List (Vec ℕ Global)). slice_get l k) (sym same) ∙ slice_get_read read (length read) k v refl less is)
    ∙ ap some (sym held)

pub all_taken : (items : List (Vec ℕ Global)) (k : ℕ) (kept : gathered.Gathered) → length items ≤ k → HasGathered (take k (all_bytes items)) kept → HasGathered (all_bytes items) kept
all_taken items k kept past h = subst (λ (l : List (List ℕ)). HasGathered l kept) (take_all (all_bytes items) k (omega (arith, past, length-map items (λ (f : Vec ℕ Global). f.items)))) h

-- the sizes so far
pub size_more : (items : List (Vec ℕ Global)) (k : ℕ) (bytes : List ℕ) → slice_get (all_bytes items) k ≡ Some bytes → total_size (take (k + 1) (all_bytes items)) ≡ total_size (take k (all_bytes items)) + length bytes
size_more items k bytes at = ap total_size (take_more (all_bytes items) k bytes at) ∙ snoc (take k (all_bytes items))
  where
    snoc : (xs : List (List ℕ)) → total_size (xs ++ bytes ∷ []) ≡ total_size xs + length bytes
    snoc [] = omega arith
    snoc (x ∷ xs) = let rest = snoc xs in omega arith

pub at_most : (form : LinkForm) (runtimes : List (List ℕ × List ℕ)) → MayHave form runtimes → length runtimes ≤ most_paths
at_most Program runtimes may = may
at_most LibraryForm runtimes may = omega (arith, ap (λ (l : List (List ℕ × List ℕ)). length l) may)

-- each of the run-time library files is short, and their number fits in values
pub few_runtimes : (given : LinkInput) (members : List held.Member) → files_of members ≡ given.runtimes → MayHave given.form given.runtimes → length members < 2 ^ 15
few_runtimes given members same may =
    let most = at_most given.form given.runtimes may in
    omega (arith, most, length-map {B = List ℕ × List ℕ} members (λ (m : held.Member). (m.name, m.bytes.items)), ap (λ (l : List (List ℕ × List ℕ)). length l) same)

pub short_runtimes : (files : List (List ℕ × List ℕ)) (n : ℕ) → total_size (map (λ file. file.1) files) ≤ n → n < 2 ^ 32 → AllByRecursion (λ (file : List ℕ × List ℕ). length file.1 < 2 ^ 32) files
short_runtimes [] n less few = tt
short_runtimes (f ∷ files) n less few = (omega arith, short_runtimes files n (omega arith) few)

-- what is kept, where the load segments have no fault
pub is_kept : (given : LinkInput) (grown : Grown) (kept : ResolvedProgram) (layout : laid.LinkLayout) (of : IsListOf given grown) → HasBytes given → IsLaidOut given of.grown.list layout → kept.files.items ≡ grown.files.items → kept.linked ≡ grown.linked
    → kept.places.items ≡ layout.places.items → AreHeaders 1 layout.loads.items (map fields kept.headers.items) → kept.form ≡ grown.form → kept.given.now ≡ grown.given.now → kept.runtimes.items ≡ grown.runtimes.loads.items
    → kept.outside ≡ grown.runtimes.outside → IsKept of.grown.list kept
is_kept given grown kept layout of bytes out files linked places headers form members loads table =
    let list = of.grown.list in
    let setting : setting_of kept ≡ setting_in list =
    ap (λ f. setting_as f kept.runtimes.items kept.given.now) form ∙ ap (λ r. setting_as grown.form r kept.given.now) loads ∙ ap (λ l. setting_as grown.form grown.runtimes.loads.items l) members ∙ sym (list_setting given grown of) in
    let read : length kept.runtimes.items ≡ length kept.given.now =
    ap (λ (l : List (List Segment)). length l) loads ∙ of.runtimes'.count ∙ ap (λ (l : List held.Member). length l) (sym members) in
    let few : length kept.given.now < 2 ^ 32 =
    omega (arith, few_runtimes given grown.given.now of.files bytes.3, ap (λ (l : List held.Member). length l) members) in
    kept_is list kept layout (subst (Holds list) (sym linked) of.grown.holds) (subst (λ (l : List (List Segment)). AllAmong l list) (sym files) of.grown.among) (omega (arith, of.grown.few)) out.laid out.short
    (omega (arith, out.few, loads_are list layout out.laid)) places (all_headers list layout (map fields kept.headers.items) out.laid out.short headers) setting
    (subst (IsOutsideOf list) (sym table) (list_outside given grown of)) read few (record { given = given; bytes = bytes; resolved = out.resolved })
