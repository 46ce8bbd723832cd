-- Run-time library files, one after another.
use Rattle.std.proofs.Common.{◌≡◌, inl, inr, ℕ, suc, ◌+◌, ◌≤◌, List, [], ◌∷◌, ◌++◌, length, take, drop, Some, None, refl, sym, ap, subst, ◌∙◌, append_assoc, append-nil, arith}
use Rattle.std.specs.Prelude.{slice_get, option_map}
use Rattle.std.specs.List.{filter_map}
use Rattle.std.proofs.lemmas.List.{length-map, length-take-le, take-append-drop}
use Rattle.std.proofs.lemmas.Option.{slice_get-map, slice_get_within}
use Rattle.omf_format.specs.File.{Segment}
use Rattle.load_meaning.specs.declared.load.LoadCause.{LoadCause}
use Rattle.load_meaning.specs.declared.load.LoadCause.TheVariants.{Truncated, BadHeader, Unsupported, BadRecord, NotLoadFile, Sequence, DataTooLong, PatchOutside, NoSuchTarget, DynamicTarget, BadTable, Memory}
use Rattle.load_meaning.specs.declared.load.LoadFault.{LoadFault}
use Rattle.load_meaning.specs.Exports.{exports_of}
use Rattle.load_meaning.specs.Runtime.{IsRuntime, IsFirstRuntimeFault}
use Rattle.load_content.specs.Views.{UnlessMemory}
use Rattle.omf_cells.specs.Load.{IsRuntimeRefused}
use Rattle.lib_dict.specs.declared.member.Member.{Member}
use Rattle.link_meaning.specs.declared.fault.LinkCause.{LinkCause}
use Rattle.link_meaning.specs.declared.fault.LinkCause.TheVariants as causes
use Rattle.link_meaning.specs.declared.fault.LinkFault.{LinkFault}
use Rattle.link_meaning.specs.Member.{RuntimeFile}
use Rattle.link_meaning.specs.Search.{FoundDefinition, outside_of, outside_from}
use Rattle.link_meaning.specs.LinkFaults.{runtime_cause, AreRuntimes, HasRuntimeFault}
use Rattle.link_program.specs.declared.outside.OutsideNames.{OutsideNames}
use Rattle.link_program.specs.Outside.{AreOutside}
use Rattle.link_resolve.specs.Runtimes.{files_of, to_link_cause, IsFileRefused, IsFirstRefused}
use Rattle.link_program.specs.Programs.{runtimes_of}
use Rattle.link_tables.proofs.Lists.{drop_at, take_more}

-- lack of memory has no cause that is reported, and no other cause is reported as that
pub not_memory : (cause : LoadCause) (reported : LinkCause) → to_link_cause cause ≡ Some reported → reported ≡ causes.Memory → ⊥
not_memory Truncated reported e memory = cc
not_memory BadHeader reported e memory = cc
not_memory Unsupported reported e memory = cc
not_memory BadRecord reported e memory = cc
not_memory NotLoadFile reported e memory = cc
not_memory Sequence reported e memory = cc
not_memory DataTooLong reported e memory = cc
not_memory PatchOutside reported e memory = cc
not_memory NoSuchTarget reported e memory = cc
not_memory DynamicTarget reported e memory = cc
not_memory BadTable reported e memory = cc
not_memory Memory reported e memory = cc

pub untold : (cause : LoadCause) → to_link_cause cause ≡ None → cause ≡ Memory
untold Truncated e = absurd cc
untold BadHeader e = absurd cc
untold Unsupported e = absurd cc
untold BadRecord e = absurd cc
untold NotLoadFile e = absurd cc
untold Sequence e = absurd cc
untold DataTooLong e = absurd cc
untold PatchOutside e = absurd cc
untold NoSuchTarget e = absurd cc
untold DynamicTarget e = absurd cc
untold BadTable e = absurd cc
untold Memory e = refl

abbrev file_of : Member → List Segment → RuntimeFile
file_of m segments = record { path = m.name; segments = segments }

-- one file more
runtimes_more : (loads : List (List Segment)) (given : List Member) (segments : List Segment) (m : Member) → slice_get given (length loads) ≡ Some m → runtimes_of (loads ++ segments ∷ []) given ≡ runtimes_of loads given ++ file_of m segments ∷ []
runtimes_more [] [] segments m e = absurd cc
runtimes_more [] (one ∷ given) segments m e = let same : one ≡ m = cc in ap (λ (x : Member). file_of x segments ∷ []) same
runtimes_more (s ∷ loads) [] segments m e = absurd cc
runtimes_more (s ∷ loads) (one ∷ given) segments m e = ap (λ (l : List RuntimeFile). file_of one s ∷ l) (runtimes_more loads given segments m e)

outside_more : (file : ℕ) (runtimes : List RuntimeFile) (r : RuntimeFile) → outside_from file (runtimes ++ r ∷ []) ≡ outside_from file runtimes ++ filter_map (outside_of (file + length runtimes) r) (exports_of r.segments)
outside_more file [] r =
    let same : file ≡ file + 0 = omega arith in
    append-nil (filter_map (outside_of file r) (exports_of r.segments)) ∙ ap (λ (n : ℕ). filter_map (outside_of n r) (exports_of r.segments)) same
outside_more file (x ∷ runtimes) r =
    let same : file + 1 + length runtimes ≡ file + suc (length runtimes) = omega arith in
    let here = filter_map (outside_of file x) (exports_of x.segments) in
    ap (λ (l : List FoundDefinition). here ++ l) (outside_more (file + 1) runtimes r ∙ ap (λ (n : ℕ). outside_from (file + 1) runtimes ++ filter_map (outside_of n r) (exports_of r.segments)) same)
    ∙ sym (append_assoc here (outside_from (file + 1) runtimes) (filter_map (outside_of (file + suc (length runtimes)) r) (exports_of r.segments)))

are_more : (files : List (List ℕ × List ℕ)) (runtimes : List RuntimeFile) (m : Member) (segments : List Segment) → AreRuntimes files runtimes → IsRuntime m.bytes.items segments
    → AreRuntimes (files ++ (m.name, m.bytes.items) ∷ []) (runtimes ++ file_of m segments ∷ [])
are_more [] [] m segments are is = (refl, is, tt)
are_more [] (r ∷ runtimes) m segments are is = absurd are
are_more (f ∷ files) [] m segments are is = absurd are
are_more (f ∷ files) (r ∷ runtimes) m segments are is = (are.0, are.1, are_more files runtimes m segments are.2 is)

runtimes_count : (files : List (List ℕ × List ℕ)) (runtimes : List RuntimeFile) → AreRuntimes files runtimes → length runtimes ≡ length files
runtimes_count [] [] are = refl
runtimes_count [] (r ∷ runtimes) are = absurd are
runtimes_count (f ∷ files) [] are = absurd are
runtimes_count (f ∷ files) (r ∷ runtimes) are = ap suc (runtimes_count files runtimes are.2)

-- the files so far were read, and the table has their names
pub record ReadSoFar (given : List Member) (place : ℕ) (loads : List (List Segment)) (table : OutsideNames) : Type 0 where
  pub within : place ≤ length given
  pub count : length loads ≡ place
  pub are : AreRuntimes (take place (files_of given)) (runtimes_of loads given)
  pub table' : AreOutside (outside_from 2 (runtimes_of loads given)) table

pub file_at : (given : List Member) (place : ℕ) (m : Member) → slice_get given place ≡ Some m → slice_get (files_of given) place ≡ Some (m.name, m.bytes.items)
file_at given place m at = slice_get-map (λ (x : Member). (x.name, x.bytes.items)) given place ∙ ap (option_map (λ (x : Member). (x.name, x.bytes.items))) at

pub read_more : (given : List Member) (place : ℕ) (loads : List (List Segment)) (old new : OutsideNames) (m : Member) (segments : List Segment) → ReadSoFar given place loads old → slice_get given place ≡ Some m → IsRuntime m.bytes.items segments
    → ((fs : List FoundDefinition) (r : RuntimeFile) → r.segments ≡ segments → AreOutside fs old → AreOutside (fs ++ filter_map (outside_of (place + 2) r) (exports_of r.segments)) new)
    → ReadSoFar given (place + 1) (loads ++ segments ∷ []) new
read_more given place loads old new m segments so at is adds =
    let there : slice_get given (length loads) ≡ Some m = ap (slice_get given) so.count ∙ at in
    let r = file_of m segments in
    let runtimes = runtimes_of loads given in
    let more = runtimes_more loads given segments m there in
    let files = take_more (files_of given) place (m.name, m.bytes.items) (file_at given place m at) in
    let within = slice_get_within given place m at in
    let size : length runtimes ≡ place = runtimes_count (take place (files_of given)) runtimes so.are ∙ length-take-le place (files_of given) (omega (arith, within, length-map {B = List ℕ × List ℕ} given (λ (x : Member). (x.name, x.bytes.items)))) in
    let number : place + 2 ≡ 2 + length runtimes = omega (arith, size) in
    record {
      within = omega (arith, within);
      count = omega (arith, so.count, Rattle.std.proofs.lemmas.List.length-append loads (segments ∷ []));
      are = subst (λ (l : List (List ℕ × List ℕ)). AreRuntimes l (runtimes_of (loads ++ segments ∷ []) given)) (sym files)
          (subst (AreRuntimes (take place (files_of given) ++ (m.name, m.bytes.items) ∷ [])) (sym more) (are_more (take place (files_of given)) runtimes m segments so.are is));
      table' = subst (λ (l : List RuntimeFile). AreOutside (outside_from 2 l) new) (sym more)
          (subst (λ (l : List FoundDefinition). AreOutside l new) (ap (λ (n : ℕ). outside_from 2 runtimes ++ filter_map (outside_of n r) (exports_of segments)) number ∙ sym (outside_more 2 runtimes r))
          (adds (outside_from 2 runtimes) r refl so.table'));
    }

-- the file after those so far is at fault
pub first_refused : (given : List Member) (inputs place : ℕ) (loads : List (List Segment)) (table : OutsideNames) (m : Member) (fault : LinkFault) → ReadSoFar given place loads table → slice_get given place ≡ Some m
    → IsFileRefused (inputs + place + 1) m.bytes.items fault → IsFirstRefused inputs (files_of given) fault
first_refused given inputs place loads table m fault so at (inl e) = inl e
first_refused given inputs place loads table m fault so at (inr has) =
    let files = files_of given in
    let there = file_at given place m at in
    let within = slice_get_within files place (m.name, m.bytes.items) there in
    let size = length-take-le place files (omega (arith, within)) in
    inr (record {
      before = take place files;
      item = (m.name, m.bytes.items);
      after = drop (place + 1) files;
      parts = sym (take-append-drop place files) ∙ ap (λ (l : List (List ℕ × List ℕ)). take place files ++ l) (drop_at files place (m.name, m.bytes.items) there);
      runtimes = runtimes_of loads given;
      are = so.are;
      here = subst (λ (n : ℕ). HasRuntimeFault (inputs + n + 1) m.bytes.items fault) (sym size) has;
    })

-- ---- faults

same : (a b : LinkCause) → Some a ≡ Some b → b ≡ a
same a b e = cc

known : (c : LoadCause) (cause : LinkCause) (fault : LoadFault) (P : Type 0) → to_link_cause c ≡ Some cause → UnlessMemory c fault P → P × (cause ≡ runtime_cause c)
known Truncated cause fault P e is = (is, same (runtime_cause Truncated) cause e)
known BadHeader cause fault P e is = (is, same (runtime_cause BadHeader) cause e)
known Unsupported cause fault P e is = (is, same (runtime_cause Unsupported) cause e)
known BadRecord cause fault P e is = (is, same (runtime_cause BadRecord) cause e)
known NotLoadFile cause fault P e is = (is, same (runtime_cause NotLoadFile) cause e)
known Sequence cause fault P e is = (is, same (runtime_cause Sequence) cause e)
known DataTooLong cause fault P e is = (is, same (runtime_cause DataTooLong) cause e)
known PatchOutside cause fault P e is = (is, same (runtime_cause PatchOutside) cause e)
known NoSuchTarget cause fault P e is = (is, same (runtime_cause NoSuchTarget) cause e)
known DynamicTarget cause fault P e is = (is, same (runtime_cause DynamicTarget) cause e)
known BadTable cause fault P e is = (is, same (runtime_cause BadTable) cause e)
known Memory cause fault P e is = absurd cc

-- the fault of a file as one of the file with this number
pub file_refused : (fault : LoadFault) (file : ℕ) (bytes : List ℕ) (cause : LinkCause) (its : LinkFault) → to_link_cause fault.cause ≡ Some cause
    → its ≡ record { cause = cause; name = None; spot = record { file = file; segment = fault.segment; at = fault.at } } → IsRuntimeRefused fault bytes → IsFileRefused file bytes its
file_refused fault file bytes cause its is reported refused =
    let both = known fault.cause cause fault (IsFirstRuntimeFault bytes fault) is refused in
    inr (record { found = fault; first = both.0; reported = reported ∙ ap at both.1 })
  where
    at : LinkCause → LinkFault
    at c = record { cause = c; name = None; spot = record { file = file; segment = fault.segment; at = fault.at } }
