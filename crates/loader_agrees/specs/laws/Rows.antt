-- The files of rows: their segments, and the entries that lead to these.
use Rattle.std.proofs.Common.{◌≡◌, inl, inr, ℕ, zero, suc, Bool, true, false, cond, ◌==◌, ◌+◌, ◌-◌, ◌<◌, ◌≤◌, List, [], ◌∷◌, length, map, nat_lt, Option, Some, None, refl, sym, ap, subst, ◌∙◌, arith}
use Rattle.std.specs.Prelude.{slice_get, option_map, nat_le, not, ◌&&◌}
use Rattle.std.specs.Option.{option_or, option_map_or}
use Rattle.std.proofs.lemmas.Option.{same_Some, slice_get-map}
use Rattle.std.proofs.lemmas.Bool.Decides.{nat_tests}
use Rattle.omf_format.specs.Header.{is_dynamic, is_skipped}
use Rattle.omf_format.specs.Number.{number_at}
use Rattle.omf_format.specs.File.{Segment, segment_at}
use Rattle.omf_io.specs.Files.{FileMap}
use Rattle.load_meaning.specs.declared.load.LoadFault.{LoadFault}
use Rattle.load_meaning.specs.declared.load.LoadCause.TheVariants as cause
use Rattle.load_meaning.specs.declared.table.Target.{Target}
use Rattle.load_meaning.specs.Cells.{segment_bytes}
use Rattle.load_meaning.specs.Table.{entry_start}
use Rattle.load_meaning.specs.Pathnames.{has_pathnames, most_paths, paths_in, paths_of, first_path, after_path}
use Rattle.load_meaning.specs.LoadTable.{is_table, table_of, targets_of}
use Rattle.load_meaning.specs.Loadable.{Fault, first_in, IsLoadable}
use Rattle.load_meaning.specs.laws.Steps.{in_segment}
use Rattle.load_meaning.specs.Runtime.{kind_fault, runtime_fault, IsRuntime}
use Rattle.load_meaning.specs.laws.CellLaws.{loadable_has}
use Rattle.loader_machine.specs.declared.seen.SegmentHead.{SegmentHead}
use Rattle.loader_machine.specs.declared.faults.LoaderFault.TheVariants.{BadFile}
use Rattle.loader_machine.specs.Heads.{head_of, at_number}
use Rattle.loader_machine.specs.Found.{HoldsLoad, HoldsRuntime, FileFound, Unread, Bad, Good, Joined, Stops, Joins, AreJoined, joined_after}
use Rattle.loader_machine.specs.laws.Words.{IsRowFound, JoinsFound, is_reached}
use Rattle.loader_machine.specs.Steps.{lost_from, lost_in, lost_refusal}
use Rattle.loader_agrees.specs.laws.Begun.{decide}
use Rattle.loader_agrees.specs.laws.RowUsers.{IsRow, AreCalled}

-- ---- paths

few_in : (n : ℕ) (bytes : List ℕ) → length (paths_in n bytes) ≤ n
few_in zero bytes = omega arith
few_in (suc n) bytes = go (number_at 2 0 bytes == 0) (few_in n (after_path bytes))
  where
    go : (b : Bool) → length (paths_in n (after_path bytes)) ≤ n → length (cond b [] (first_path bytes ∷ paths_in n (after_path bytes))) ≤ suc n
    go true rest = omega arith
    go false rest = omega (arith, rest)

-- a file has at most 16 paths
pub few_paths : (segments : List Segment) → length (paths_of segments) ≤ most_paths
unfolding paths_of
few_paths [] = omega arith
few_paths (s ∷ segments) = go (has_pathnames s) (few_in most_paths (segment_bytes s)) (few_paths segments)
  where
    go : (b : Bool) → length (paths_in most_paths (segment_bytes s)) ≤ most_paths → length (paths_of segments) ≤ most_paths
        → length (cond b (paths_in most_paths (segment_bytes s)) (paths_of segments)) ≤ most_paths
    go true here rest = here
    go false here rest = rest

-- ---- segments of run-time library files

fault_none : (o : Option Fault) (rest : Option LoadFault) (number : ℕ) → option_or (option_map (in_segment number) o) rest ≡ None → (o ≡ None) × (rest ≡ None)
fault_none None rest number e = (refl, e)
fault_none (Some fault) rest number e = absurd cc

kind_none : (number : ℕ) (segments : List Segment) → first_in kind_fault number segments ≡ None → (k : ℕ) (s : Segment) → slice_get segments k ≡ Some s
    → (is_dynamic s.fields.kind && not (is_skipped s.fields.kind)) ≡ true
kind_none number [] e k s is = absurd cc
kind_none number (t ∷ segments) e (suc k) s is = kind_none (number + 1) segments (fault_none (kind_fault number t) (first_in kind_fault (number + 1) segments) number e).1 k s is
kind_none number (t ∷ segments) e zero s is =
    let here = (fault_none (kind_fault number t) (first_in kind_fault (number + 1) segments) number e).0 in
    subst (λ (u : Segment). (is_dynamic u.fields.kind && not (is_skipped u.fields.kind)) ≡ true) (same_Some t s is) (go (is_dynamic t.fields.kind && not (is_skipped t.fields.kind)) t.start here)
  where
    go : (b : Bool) (start : ℕ) → cond {A = Option Fault} b None (Some (cause.NotLoadFile, start)) ≡ None → b ≡ true
    go true start e = refl
    go false start e = absurd cc

both_kinds : (d k : Bool) → (d && not k) ≡ true → (d ≡ true) × (k ≡ false)
both_kinds true true e = absurd cc
both_kinds true false e = (refl, refl)
both_kinds false k e = absurd cc

-- each segment of a run-time library file is dynamic, not skipped, and no table
pub runtime_called : (file : List ℕ) (segments : List Segment) → IsRuntime file segments → AreCalled segments
unfolding runtime_fault
runtime_called file segments is zero s found = absurd cc
runtime_called file segments is (suc k) s found =
    let kinds = both_kinds (is_dynamic s.fields.kind) (is_skipped s.fields.kind) (kind_none 1 segments is.dynamic k s found) in (
      kinds.0,
      kinds.1,
      elim (decide (is_table s)) [
        | inr other ↦ other
        | inl table ↦ (let clash : true ≡ false = sym kinds.0 ∙ ((loadable_has file segments is.loadable (suc k) s found).table table).static in absurd cc)
      ],
    )

-- ---- entries

-- an entry for another file leads to a segment of that one of these files, and to an offset below its LENGTH
pub record IsReached (all : List (List SegmentHead)) (t : Target) : Type 0 where
  pub heads : List SegmentHead
  pub head : SegmentHead
  pub row : slice_get all (t.file - 2) ≡ Some heads
  pub head' : at_number heads t.segment ≡ Some head
  pub inside : t.offset < head.length

reached_at : (all : List (List SegmentHead)) (t : Target) → 2 ≤ t.file → is_reached all t ≡ true → IsReached all t
reached_at all t above is =
    let own : nat_le t.file 1 ≡ false = grind arith in
    go (slice_get all (t.file - 2)) refl (rw own at is)
  where
    inner : (heads : List SegmentHead) (o : Option SegmentHead) → slice_get all (t.file - 2) ≡ Some heads → at_number heads t.segment ≡ o → option_map_or (λ (head : SegmentHead). nat_lt t.offset head.length) o false ≡ true → IsReached all t
    inner heads None row e is = absurd cc
    inner heads (Some head) row e is = let test : nat_lt t.offset head.length ≡ true = is in record { heads = heads; head = head; row = row; head' = e; inside = grind (arith, nat_tests, test) }

    go : (o : Option (List SegmentHead)) → slice_get all (t.file - 2) ≡ o
        → option_map_or (λ (heads : List SegmentHead). option_map_or (λ (head : SegmentHead). nat_lt t.offset head.length) (at_number heads t.segment) false) o false ≡ true → IsReached all t
    go None e is = absurd cc
    go (Some heads) e is = inner heads (at_number heads t.segment) e refl is

none_lost : (all : List (List SegmentHead)) (k : ℕ) (ts : List Target) → lost_from all k ts ≡ None → (i : ℕ) (t : Target) → slice_get ts i ≡ Some t → is_reached all t ≡ true
none_lost all k [] e i t found = absurd cc
none_lost all k (u ∷ ts) e i t found = go (is_reached all u) refl i e found (none_lost all (k + 1) ts)
  where
    go : (b : Bool) → is_reached all u ≡ b → (i : ℕ) → cond b (lost_from all (k + 1) ts) (Some k) ≡ None → slice_get (u ∷ ts) i ≡ Some t
        → (lost_from all (k + 1) ts ≡ None → (j : ℕ) (v : Target) → slice_get ts j ≡ Some v → is_reached all v ≡ true) → is_reached all t ≡ true
    go true is zero e found rest = subst (λ (v : Target). is_reached all v ≡ true) (same_Some u t found) is
    go true is (suc j) e found rest = rest e j t found
    go false is j e found rest = absurd cc

lost_none : (all : List (List SegmentHead)) (segments : List Segment) (number : ℕ) (s : Segment) → table_of segments ≡ Some number → segment_at segments number ≡ Some s → lost_refusal all segments ≡ None
    → lost_from all 0 (targets_of s) ≡ None
unfolding lost_refusal
lost_none all segments number s table is none = third (lost_from all 0 (targets_of s)) (rw is at (second (lost_in all segments number) (rw table at none)))
  where
    second : (o : Option LoadFault) → option_map BadFile o ≡ None → o ≡ None
    second None e = refl
    second (Some fault) e = absurd cc

    third : (o : Option ℕ) → option_map (λ (k : ℕ). let lost : LoadFault = record { cause = cause.NoSuchTarget; segment = number; at = entry_start k } in lost) o ≡ None → o ≡ None
    third None e = refl
    third (Some k) e = absurd cc

-- where no entry of a file's table is lost, each for another file leads to one
pub all_reached : (file : List ℕ) (segments : List Segment) (all : List (List SegmentHead)) → IsLoadable file segments → lost_refusal all segments ≡ None
    → (n k : ℕ) (s : Segment) (t : Target) → segment_at segments n ≡ Some s → is_table s ≡ true → slice_get (targets_of s) k ≡ Some t → 2 ≤ t.file → IsReached all t
all_reached file segments all loadable none n k s t is table found above =
    reached_at all t above (none_lost all 0 (targets_of s) (lost_none all segments n s ((loadable_has file segments loadable n s is).only table) is none) k t found)

-- the headers of a row's file
pub row_heads : (paths : List (List ℕ)) (all : List (List Segment)) (j : ℕ) (path : List ℕ) (segments : List Segment) (heads : List SegmentHead) → IsRow paths all j path segments
    → slice_get (map (map head_of) all) j ≡ Some heads → map head_of segments ≡ heads
row_heads paths all j path segments heads row is = same_Some (map head_of segments) heads (ap (option_map (map head_of)) (sym row.segments') ∙ sym (slice_get-map (map head_of) all j) ∙ is)

-- ---- files that are held

pub runtime_load : (held : FileMap) (path : List ℕ) (segments : List Segment) → HoldsRuntime held path segments → HoldsLoad held path segments
runtime_load held path segments holds = record { file = holds.file; is_held = holds.is_held; loadable = holds.runtime.loadable }

-- the files of the rows are run-time library files
abbrev AreHeld : FileMap → List (List ℕ) → List (List Segment) → Type 0
AreHeld held paths all = (j : ℕ) (path : List ℕ) (segments : List Segment) → IsRow paths all j path segments → HoldsRuntime held path segments

held_after : (held : FileMap) (path : List ℕ) (paths : List (List ℕ)) (segments : List Segment) (all others : List (List Segment)) → HoldsRuntime held path segments → all ≡ segments ∷ others → AreHeld held paths others
    → AreHeld held (path ∷ paths) all
held_after held path paths segments all others holds e rest zero p ss row =
    let same : path ≡ p = same_Some path p row.path' in
    let same' : segments ≡ ss = same_Some segments ss (ap (λ (l : List (List Segment)). slice_get l 0) (sym e) ∙ row.segments') in
    subst (λ (q : List ℕ). HoldsRuntime held q ss) same (subst (HoldsRuntime held path) same' holds)
held_after held path paths segments all others holds e rest (suc j) p ss row =
    rest j p ss (record { path' = row.path'; segments' = ap (λ (l : List (List Segment)). slice_get l (suc j)) (sym e) ∙ row.segments' })

held_found : (held : FileMap) (path : List ℕ) (paths : List (List ℕ)) (all : List (List Segment)) (found : FileFound) → IsRowFound held path found → JoinsFound found (AreJoined held paths) (Joins all)
    → ((others : List (List Segment)) → AreJoined held paths (Joins others) → AreHeld held paths others) → AreHeld held (path ∷ paths) all
held_found held path paths all Unread is joins rest = absurd cc
held_found held path paths all (Bad fault) is joins rest = absurd cc
held_found held path paths all (Good segments) is joins rest = go joins.0 joins.1 joins.2
  where
    go : (joined : Joined) → AreJoined held paths joined → Joins all ≡ joined_after segments joined → AreHeld held (path ∷ paths) all
    go (Stops reads why) are e = absurd cc
    go (Joins others) are e = let same : all ≡ segments ∷ others = cc in held_after held path paths segments all others is same (rest others are)

pub rows_held : (held : FileMap) (paths : List (List ℕ)) (all : List (List Segment)) → AreJoined held paths (Joins all) → AreHeld held paths all
rows_held held [] all joined j path segments row = let none = row.path' in absurd cc
rows_held held (path ∷ paths) all joined j p ss row = held_found held path paths all joined.0 joined.1 joined.2 (rows_held held paths) j p ss row
