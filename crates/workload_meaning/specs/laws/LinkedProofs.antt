-- Why the workload's object is linked: no phase finds a fault.
use Rattle.std.proofs.Common.{◌≡◌, ℕ, ◌+◌, ◌^◌, ◌<◌, ◌≤◌, Bool, true, false, cond, List, [], ◌∷◌, length, filter, refl, sym, ap, subst, ◌∙◌, arith, inl, inr}
use Rattle.std.specs.Prelude.{Result, Ok, Err}
use Rattle.std.proofs.lemmas.Slice.Eq.{bytes_eq-Decides}
use Rattle.omf_format.specs.Number.{IsBytes}
use Rattle.omf_format.specs.File.{Segment, IsFile}
use Rattle.link_meaning.specs.declared.fault.LinkFault.{LinkFault}
use Rattle.link_meaning.specs.First.{IsIn}
use Rattle.link_meaning.specs.Member.{Member, without_runtimes, members_from}
use Rattle.link_meaning.specs.Search.{FoundDefinition}
use Rattle.link_meaning.specs.Cycles.{is_equate, equates}
use Rattle.link_meaning.specs.Layout.{in_load, load_names, load_members}
use Rattle.link_meaning.specs.LinkFaults.{LinkInput, HasBytes, plain, IsResolved}
use Rattle.link_meaning.specs.LinkValues.{EquateAnswer, IsTable, AreReported}
use Rattle.link_meaning.specs.LinkedCells.{table_number, items, targets, state_after}
use Rattle.link_meaning.specs.LinkWritten.{AreMade, start, written_file}
use Rattle.link_meaning.specs.laws.LinkedRuns.{AreSized, MembersHave, members_have, few_on}
use Rattle.link_meaning.specs.laws.LinkWrittenLaws.{some_members, in_at}
use Rattle.link_meaning.specs.laws.ReadMembers.{members_read, read_size, read_some, read_header}
use Rattle.link_meaning.specs.laws.ValueFits.{all_sound}
use Rattle.link_meaning.specs.laws.MemberLists.{in_filter}
use Rattle.link_meaning.specs.EmitFaults.{HasCycleFault, EmitPhase, Cycles, Values, Size, HasEmitFault, IsFirstLinkFault, IsLinkable, IsLinkAnswer}
use Rattle.link_meaning.specs.laws.Steps.{emit_phases}
use Rattle.link_meaning.specs.laws.EmitFaultLaws.{made_sound, one_link_answer}
use Rattle.asm_meaning.specs.Object.{object_text}
use Rattle.asm_meaning.specs.laws.ObjectFileLaws.{ended_are_file}
use Rattle.workload_meaning.specs.Draws.{draws}
use Rattle.workload_meaning.specs.Object.{object}
use Rattle.workload_meaning.specs.laws.ObjectLaws.{segments_of, are_sound, are_read, length-draws, IsWorkload}
use Rattle.workload_meaning.specs.laws.SearchLaws.{AreOwn, titles_from, entries_are}
use Rattle.workload_meaning.specs.laws.ResolvedLaws.{never, never_in, IsList, is_alone, short_load, few_names, is_resolved, members_listed}
use Rattle.workload_meaning.specs.laws.CallLaws.{all_made}
use Rattle.workload_meaning.specs.laws.SizeLaws.{file_short}
use Rattle.workload_meaning.specs.LinkedLaws.{WorkloadIsLinked}

-- ---- equates

no_titles : (place : ℕ) (ms : List Member) → filter is_equate (titles_from place ms) ≡ []
no_titles place [] = refl
no_titles place (m ∷ ms) = no_titles (place + 1) ms

no_equates : (n : ℕ) (list : List Member) → AreOwn n list → equates list ≡ []
unfolding equates
no_equates n list own = ap (filter is_equate) (entries_are n list own) ∙ no_titles 1 list

empty_table : (n : ℕ) (list : List Member) → AreOwn n list → IsTable list []
empty_table n list own = record {
  straight = λ e among circle. absurd (subst (λ (l : List FoundDefinition). IsIn l e) (no_equates n list own) among);
  rows = subst (λ (l : List FoundDefinition). AreReported list [] l []) (sym (no_equates n list own)) tt;
}

-- what passes a filter has the load name
passed : (x : List ℕ) (list : List Member) (m : Member) → IsIn (filter (in_load x) list) m → in_load x m ≡ true
passed x [] m is = absurd is
passed x (o ∷ list) m is = by_test (in_load x o) refl is (passed x list m)
  where
    by_test : (b : Bool) → in_load x o ≡ b → IsIn (cond b (o ∷ filter (in_load x) list) (filter (in_load x) list)) m → (IsIn (filter (in_load x) list) m → in_load x m ≡ true) → in_load x m ≡ true
    by_test true here (inl e) go = ap (in_load x) (sym e) ∙ here
    by_test true here (inr more) go = go more
    by_test false other more go = go more

-- ---- the phases after layout

abbrev refused : LinkFault → Result (List ℕ) LinkFault
refused fault = Err fault

not_both : (fault : LinkFault) (output : List ℕ) → refused fault ≡ Ok output → ⊥
not_both fault output e = cc

module _ (n : ℕ) (sizes object' : List ℕ) (segments : List Segment) (few : n ≤ 64) (size : length sizes ≡ n) (is_file : IsFile segments object') (w : IsWorkload n sizes segments) (bytes : IsBytes object') where
  abbrev list : List Member
  list = members_from without_runtimes 1 1 segments

  abbrev given : LinkInput
  given = plain (object' ∷ [])

  all_bytes : HasBytes given
  all_bytes = ((bytes, tt), tt, tt, omega arith)

  resolved : IsResolved given list
  resolved = is_resolved n sizes object' segments few size is_file w

  listed : IsList n list
  listed = members_listed n sizes object' segments few size is_file w

  made : (table : List EquateAnswer) → AreMade list table start (items list)
  made table = all_made n sizes segments table few size w

  loads_few : length (load_names list) ≤ 65
  loads_few = omega (arith, few_names n list listed, few)

  of_ten : (x : List ℕ) → IsIn (load_names list) x → length x ≡ 10
  unfolding load_members
  of_ten x is =
      let m = some_members list x is in
      let there : IsIn list m.0 = in_filter (in_load x) list m.0 m.1 in
      ap length (sym ((bytes_eq-Decides m.0.segment.fields.load_name x).0 (passed x list m.0 m.1))) ∙ (read_header m.0.segment (members_read given list m.0 all_bytes resolved.program there)).load_name

  short : (table : List EquateAnswer) → IsTable list table → length (written_file list table) ≤ 0x1000000
  unfolding targets state_after
  short table is_table =
      let sound = all_sound given list table all_bytes resolved is_table in
      let small : table_number list < 2 ^ 16 = omega (arith, loads_few) in
      let sized : AreSized list = λ front m back parts. let r = members_read given list m all_bytes resolved.program (in_at list front m back parts) in (read_size m.segment r, read_some m.segment r) in
      let have : MembersHave list table = members_have list table small (made table) sound sized in
      let entries : length (targets list table) ≤ 4680 = few_on list table start (items list) small (omega arith) (made table) sound in
      file_short list table have (λ x. short_load n x list few listed) (is_alone n list listed) loads_few entries of_ten

  no_emit_fault : (before : List EmitPhase) (phase : EmitPhase) (fault : LinkFault) → HasEmitFault list before phase fault → ⊥
  no_emit_fault before Cycles fault has =
      never_in (HasCycleFault list) (equates list) (λ front e reported among cycle. subst (λ (l : List FoundDefinition). IsIn l e) (no_equates n list listed.all) among) fault has
  no_emit_fault before Values fault (table, is_table, first) =
      made_sound list table (made table) first.before first.item first.after fault first.parts first.here
  no_emit_fault before Size fault (table, is_table, has) = omega (arith, short table is_table, has.long)

  no_link_fault : (fault : LinkFault) → IsFirstLinkFault given fault → ⊥
  no_link_fault fault first =
      let linkable : IsLinkable given list [] = record {
        resolved = resolved;
        emitted = record { valued = empty_table n list listed.all; sound = never (HasEmitFault list) emit_phases no_emit_fault };
      } in
      let linked : IsLinkAnswer given (Ok (written_file list [])) = record { list = list; table = []; linkable = linkable; is_written = refl } in
      not_both fault (written_file list []) (one_link_answer given (Err fault) (Ok (written_file list [])) first linked)

pub workload_is_linked : WorkloadIsLinked
unfolding object
workload_is_linked n seed fault some few bytes short first =
    let file = ended_are_file (segments_of n seed) (are_sound n seed few) short in
    no_link_fault n (draws n seed) (object_text (segments_of n seed)) file.0 few (length-draws n seed) file.1 (are_read n seed file.0 some few file.2) bytes fault first
