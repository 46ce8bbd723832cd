-- A run of the workload, and how it ends.
use Rattle.std.proofs.Common.{◌≡◌, ◌≢◌, ◌⊎◌, inl, inr, ℕ, suc, ◌+◌, ◌^◌, ◌<◌, ◌≤◌, List, [], ◌∷◌, ◌++◌, length, Option, None, Some, Result, Ok, Err, refl, sym, ap, subst, ◌∙◌, arith}
use Rattle.omf_io.specs.Steps.{Rose}
use Rattle.std.specs.Prelude.{IfOk}
use Rattle.std.specs.FinMap.{empty, insert}
use Rattle.std.proofs.lemmas.List.{length-append}
use Rattle.omf_base.specs.declared.line.LineFault.{LineFault}
use Rattle.link_meaning.specs.declared.fault.LinkFault.{LinkFault}
use Rattle.link_meaning.specs.declared.fault.LinkCause.TheVariants as causes
use Rattle.link_resolve.specs.Resolved.{AreFew}
use Rattle.link_file.specs.Answers.{IsLinkRefused}
use Rattle.omf_format.specs.declared.fault.FileCause.{FileCause}
use Rattle.omf_format.specs.declared.fault.FileCause.TheVariants as file_causes
use Rattle.omf_format.specs.declared.fault.FileFault.{FileFault}
use Rattle.omf_records.specs.Segments.{UnlessMemory, IsRefused}
use Rattle.omf_format.specs.Number.{IsBytes}
use Rattle.omf_format.specs.File.{Segment, IsFile, IsFirstFault}
use Rattle.omf_format.specs.laws.FileLaws.{file_same, no_file}
use Rattle.load_meaning.specs.declared.table.Target.{Target}
use Rattle.load_meaning.specs.WrittenFile.{Image, AreReadAs}
use Rattle.link_meaning.specs.Member.{RuntimeFile, Member, setting_in}
use Rattle.link_meaning.specs.LinkValues.{EquateAnswer}
use Rattle.link_meaning.specs.Layout.{load_names}
use Rattle.link_meaning.specs.LinkedCells.{table_number, targets}
use Rattle.link_meaning.specs.LinkWritten.{load_images, table_images, path_images, images}
use Rattle.link_meaning.specs.laws.LinkWrittenLaws.{few_loads}
use Rattle.link_meaning.specs.LinkFaults.{LinkInput, plain, IsResolved}
use Rattle.link_meaning.specs.EmitFaults.{IsFirstLinkFault, IsLinkedTo}
use Rattle.link_meaning.specs.laws.EmitFaultLaws.{linkable_stands_for}
use Rattle.link_meaning.specs.laws.LoadSegmentLaws.{is_read_whole}
use Rattle.omf_io.specs.Files.{FileMap}
use Rattle.omf_io.specs.Sinks.{SinkSeen, FailsToPrint}
use Rattle.loader_machine.specs.State.{Machine}
use Rattle.loader_agrees.specs.Agrees.{Loaded, Agrees}
use Rattle.workload_meaning.specs.Object.{object}
use Rattle.workload.specs.Rounds.{program}
use Rattle.workload_meaning.specs.Draws.{following}
use Rattle.workload_meaning.specs.laws.LinkedProofs.{workload_is_linked}
use Rattle.workload.specs.Work.{HasWorked}
use Rattle.omf_making.specs.declared.status.Status.{Status}
use Rattle.omf_making.specs.declared.status.Status.TheVariants.{Done, Refused, Usage, CannotRead, CannotWrite, CannotPrint, Memory}
use Rattle.omf_making.specs.Printing.{Whole, Part, Nothing, IsPrinted}
use Rattle.omf_cli.specs.Stress.{IsOfWorkload, IsStore, RunsTo, HasStressed, HasEnded, stress_line}
use Rattle.omf_cli.specs.Steps.{HasSegments}

-- ---- the load file's segments

length-loads : (list : List Member) (table : List EquateAnswer) (number : ℕ) (xs : List (List ℕ)) → length (load_images list table number xs) ≡ length xs
length-loads list table number [] = refl
length-loads list table number (x ∷ xs) = ap suc (length-loads list table (number + 1) xs)

length-table : (number : ℕ) (targets : List Target) → length (table_images number targets) ≤ 1
length-table number [] = omega arith
length-table number (target ∷ targets) = omega arith

length-paths : (number : ℕ) (runtimes : List RuntimeFile) → length (path_images number runtimes) ≤ 1
length-paths number [] = omega arith
length-paths number (r ∷ runtimes) = omega arith

few_images : (given : LinkInput) (list : List Member) (table : List EquateAnswer) → IsResolved given list → length (images list table) ≤ 256
unfolding images
few_images given list table resolved =
    let tables = table_images (table_number list) (targets list table) in
    let paths = path_images (table_number list + length tables) (setting_in list).runtimes in
    omega (
      arith,
      length-append (load_images list table 1 (load_names list)) (tables ++ paths),
      length-append tables paths,
      length-loads list table 1 (load_names list),
      length-table (table_number list) (targets list table),
      length-paths (table_number list + length tables) (setting_in list).runtimes,
      few_loads given list resolved,
    )

as_many : (all : List Image) (segments : List Segment) → AreReadAs all segments → length segments ≡ length all
as_many [] [] are = refl
as_many [] (s ∷ segments) are = absurd are
as_many (image ∷ all) [] are = absurd are
as_many (image ∷ all) (s ∷ segments) are = ap suc (as_many all segments are.1)

-- what the linker writes of one object is a file of 256 segments at most
pub linked_segments : (object file : List ℕ) → IsBytes object → IsLinkedTo (plain (object ∷ [])) file → (segments : List Segment) × IsFile segments file × (length segments ≤ 256)
linked_segments object file fits is =
    let found = linkable_stands_for (plain (object ∷ [])) is.list is.table ((fits, tt), tt, tt, omega arith) is.linkable in (
      found.0,
      subst (λ (text : List ℕ). IsFile found.0 text) (sym is.is_written) found.1,
      omega (arith, as_many (images is.list is.table) found.0 found.2, few_images (plain (object ∷ [])) is.list is.table is.linkable.resolved),
    )

-- which has few bytes
pub short_file : (object file : List ℕ) → IsLinkedTo (plain (object ∷ [])) file → length file < 2 ^ 32
short_file object file is = omega (arith, is_read_whole (plain (object ∷ [])) file is)

-- so these are few
pub few_segments : (object file : List ℕ) (segments : List Segment) → IsBytes object → IsLinkedTo (plain (object ∷ [])) file → IsFile segments file → length segments ≤ 256
few_segments object file segments fits is file_is =
    let found = linked_segments object file fits is in
    omega (arith, ap length (file_same segments found.0 file file_is found.1), found.2)

-- and it has no fault
pub no_fault : (object file : List ℕ) (fault : FileFault) → IsBytes object → IsLinkedTo (plain (object ∷ [])) file → IsRefused fault file → fault.cause ≢ file_causes.Memory → ⊥
no_fault object file fault fits is refused other = by_cause fault.cause refused other
  where
    first : IsFirstFault file fault → ⊥
    first has = let found = linked_segments object file fits is in no_file file fault found.0 has found.1

    by_cause : (cause : FileCause) → UnlessMemory cause fault (IsFirstFault file fault) → cause ≢ file_causes.Memory → ⊥
    by_cause file_causes.Truncated has other = first has
    by_cause file_causes.BadHeader has other = first has
    by_cause file_causes.Unsupported has other = first has
    by_cause file_causes.BadRecord has other = first has
    by_cause file_causes.Memory has other = other refl

-- ---- the run

-- the calls were answered over the store of the object's load file
pub runs_to : (n seed count entered refused sum last : ℕ) (loader : Loaded) (made : List ℕ) (files : FileMap) → made ≡ object n seed → IsStore made files count → last ≡ following n seed
    → ((start : ℕ) → last ≡ following n start → (state : Machine) × Agrees files loader state × HasWorked files n start count entered refused sum state)
    → RunsTo n seed loader count entered refused sum
runs_to n seed count entered refused sum last loader made files made_is store drawn work =
    let done = work seed drawn in
    record { files = files; store = subst (λ (o : List ℕ). IsStore o files count) made_is store; last = done.0; worked = done.2; agrees = done.1 }

-- where the line couldn't be printed, a count rose
pub ended_completes : (result : Status) (n seed : ℕ) (last : Option Loaded) (before now : SinkSeen) → HasEnded result n seed last before now → ¬ Rose before.faults now.faults
    → (result ≡ Done) ⊎ (result ≡ Memory)
ended_completes Done n seed last before now ended calm = inl refl
ended_completes Memory n seed last before now ended calm = inr refl
ended_completes CannotPrint n seed None before now ended calm = absurd (calm (rose ended.3))
  where
    rose : FailsToPrint ended.1 before now → Rose before.faults now.faults
    rose fails = let is = ap (λ (s : SinkSeen). s.faults) fails.2 in omega (arith, is)
ended_completes CannotPrint n seed (Some loader) before now ended calm = absurd ended
ended_completes Refused n seed last before now ended calm = absurd ended
ended_completes Usage n seed last before now ended calm = absurd ended
ended_completes CannotRead n seed last before now ended calm = absurd ended
ended_completes CannotWrite n seed last before now ended calm = absurd ended

-- ---- what is printed

module _ (n seed count entered refused sum : ℕ) (loader : Loaded) (before now : SinkSeen) (runs : RunsTo n seed loader count entered refused sum) where
  stressed : (text : List ℕ) → text ≡ stress_line count n entered refused sum → HasStressed n seed loader text
  stressed text is = record { count = count; entered = entered; refused = refused; sum = sum; runs = runs; text_is = is }

  -- the line was printed whole
  pub ended_done : (line : Result (List ℕ) LineFault) (status : Status) → IfOk line (λ text. text ≡ stress_line count n entered refused sum) → IsPrinted line Done status before now
      → status ≡ Done → HasEnded status n seed (Some loader) before now
  ended_done (Ok text) status is (Whole same all) done = subst (λ (s : Status). HasEnded s n seed (Some loader) before now) (sym same) (text, stressed text is, all)
  ended_done (Ok text) status is (Part same front) done = absurd (no_part (sym same ∙ done))
    where
      no_part : CannotPrint ≡ Done → ⊥
      no_part e = cc
  ended_done (Ok text) status is (Nothing same none) done = absurd (no_memory (sym same ∙ done))
    where
      no_memory : Memory ≡ Done → ⊥
      no_memory e = cc
  ended_done (Err fault) status is printed done = absurd (no_memory (sym printed.0 ∙ done))
    where
      no_memory : Memory ≡ Done → ⊥
      no_memory e = cc

  -- or not
  pub ended_other : (line : Result (List ℕ) LineFault) (status : Status) → IfOk line (λ text. text ≡ stress_line count n entered refused sum) → IsPrinted line Done status before now
      → status ≢ Done → HasEnded status n seed None before now
  ended_other (Ok text) status is (Whole same all) other = absurd (other same)
  ended_other (Ok text) status is (Part same front) other = subst (λ (s : Status). HasEnded s n seed None before now) (sym same) (loader, text, stressed text is, front)
  ended_other (Ok text) status is (Nothing same none) other = subst (λ (s : Status). HasEnded s n seed None before now) (sym same) none
  ended_other (Err fault) status is printed other = subst (λ (s : Status). HasEnded s n seed None before now) (sym printed.0) printed.1

-- ---- the load file

-- the object is a short one
pub few_object : (files : List (List ℕ)) → IsOfWorkload files → AreFew files
few_object files is = subst AreFew (sym is.parts) (omega arith, omega (arith, is.short))

-- it has no fault
pub no_link_fault : (files : List (List ℕ)) (fault : LinkFault) → IsOfWorkload files → IsLinkRefused (plain files) fault → fault.cause ≢ causes.Memory → ⊥
no_link_fault files fault is (inl memory) other = other (ap (λ (f : LinkFault). f.cause) memory)
no_link_fault files fault is (inr first) other =
    workload_is_linked is.n is.seed fault is.some is.few is.bytes is.short (subst (λ (l : List (List ℕ)). IsFirstLinkFault (plain l) fault) is.parts first)

pub one_object : (object' : List ℕ) → IsBytes object' → length object' ≤ 16777216 → ((n : ℕ) × (seed : ℕ) × (1 ≤ n) × (n ≤ 64) × (object' ≡ object n seed)) → IsOfWorkload (object' ∷ [])
one_object object' bytes short (n, seed, some, few, is) = record {
  n = n;
  seed = seed;
  some = some;
  few = few;
  parts = ap (λ (o : List ℕ). o ∷ []) is;
  bytes = subst IsBytes is bytes;
  short = subst (λ (o : List ℕ). length o ≤ 16777216) is short;
}

-- a store with the load file alone
pub one_stored : (object file : List ℕ) (files : FileMap) (count : ℕ) → IsLinkedTo (plain (object ∷ [])) file → HasSegments file count → files ≡ insert empty program file → IsStore object files count
one_stored object file files count is many only = record { file = file; linked = is; segments = many; only = only }
