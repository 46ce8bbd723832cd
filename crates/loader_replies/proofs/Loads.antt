-- A load, which may read its file and those of its rows.
use Rattle.std.proofs.Common.{◌≡◌, ◌≢◌, inl, inr, ℕ, suc, Bool, false, ◌+◌, ◌≤◌, List, [], ◌∷◌, length, map, Option, Some, Result, Ok, Err, refl, sym, ap, subst, arith}
use Rattle.std.specs.Prelude.{IfOk}
use Rattle.omf_format.specs.File.{Segment}
use Rattle.omf_io.specs.Counts.{saturating_sum}
use Rattle.omf_io.specs.Files.{FileMap, StoreSeen}
use Rattle.omf_base.specs.declared.line.LineFault.{LineFault}
use Rattle.load_meaning.specs.Pathnames.{paths_of}
use Rattle.loader_machine.specs.Rule.{RoomRule}
use Rattle.loader_machine.specs.declared.faults.LoaderFault.{LoaderFault}
use Rattle.loader_machine.specs.declared.faults.LoaderFault.TheVariants as faults
use Rattle.loader_machine.specs.Heads.{head_of}
use Rattle.loader_machine.specs.State.{Machine, first_id}
use Rattle.loader_machine.specs.Found.{Joined, Stops, Joins, joined_after}
use Rattle.loader_machine.specs.Commands as commands
use Rattle.loader_machine.specs.Commands.{Load, Reply}
use Rattle.loader_machine.specs.Replies.{reply_line}
use Rattle.loader_agrees.specs.Agrees.{Loaded, Agrees, MeetsReads}
use Rattle.loader_agrees.specs.laws.Rows.{few_paths}
use Rattle.sys_loader.specs.declared.answers.Started.{Started}
use Rattle.sys_loader.specs.Calls.{AreRowsRead, IsRowsRefusal, IsCrowded, RowStops, IsLost, CantBegin, RowsLackMemory, IsLoadRefusal, IsFull, CantRead, LacksMemory, IsBad, CantStart, HasLoaded}
use Rattle.sys_loader.specs.Replies.{load_reply}
use Rattle.loader_replies.specs.Replied.{most_reads}
use Rattle.loader_replies.proofs.Words.{is_unread_fault, is_full_fault, LoadMayRead}
use Rattle.loader_replies.specs.Answered.{HasLine}
use Rattle.loader_replies.proofs.FileReads.{read_line, good_text, bad_text}
use Rattle.loader_replies.proofs.Reading.{IsFaulted, other_fault, unread_fault, lost_safe, begin_safe}

-- ---- the files of rows

-- the outcome of reading `most` files at most
abbrev RowsEnd : Option FileMap → ℕ → ℕ → ℕ → Joined → Type 0
RowsEnd held most before now (Stops rows why) = IsFaulted {A = Started} held (Err why) before now × (is_full_fault why ≡ false) × (rows ≤ most)
RowsEnd held most before now (Joins all) = (now ≡ before) × (length all ≤ most)

end_after : (held : Option FileMap) (most before now : ℕ) (segments : List Segment) (rest : Joined) → RowsEnd held most before now rest → RowsEnd held (suc most) before now (joined_after segments rest)
end_after held most before now segments (Stops rows why) end = (end.0, end.1, omega (arith, end.2))
end_after held most before now segments (Joins all) end = (end.0, omega (arith, end.1))

rows_end : (held : Option FileMap) (paths : List (List ℕ)) (before now : ℕ) (joined : Joined) → AreRowsRead held paths before now joined → RowsEnd held (length paths) before now joined
rows_end held [] before now joined (is, same) = subst (RowsEnd held 0 before now) (sym is) (same, omega arith)
rows_end held (path ∷ paths) before now joined (inl (cause, is)) =
    subst (RowsEnd held (suc (length paths)) before now) (sym is) (unread_fault Started held path faults.CannotRead before now refl cause, refl, omega arith)
rows_end held (path ∷ paths) before now joined (inr (file, is_read, inl (bad, first, is, same))) =
    subst (RowsEnd held (suc (length paths)) before now) (sym is) (other_fault Started held (faults.BadFile bad) before now refl same, refl, omega arith)
rows_end held (path ∷ paths) before now joined (inr (file, is_read, inr (segments, runtime, rest, rows, is))) =
    subst (RowsEnd held (suc (length paths)) before now) (sym is) (end_after held (length paths) before now segments rest (rows_end held paths before now rest rows))

-- ---- the counts of a load that was refused

-- `reads` files were read, and one read failed at most
pub record HasCounts (held : Option FileMap) (why : LoaderFault) (before now reads : ℕ) : Type 0 where
  pub few : reads ≤ most_reads
  pub may : LoadMayRead (is_full_fault why) reads
  pub faulted : IsFaulted {A = Started} held (Err why) before now

module _ (held : Option FileMap) (why : LoaderFault) (before now reads : ℕ) where
  -- for the count of users
  full_counts : why ≡ faults.TooManyUsers → reads ≤ 1 → now ≡ before → HasCounts held why before now reads
  full_counts is few same = record {
    few = omega (arith, few);
    may = subst (λ (b : Bool). LoadMayRead b reads) (sym (ap is_full_fault is)) few;
    faulted = other_fault Started held why before now (ap is_unread_fault is) same;
  }

  -- or for another cause
  other_counts : is_full_fault why ≡ false → 1 ≤ reads → reads ≤ most_reads → IsFaulted {A = Started} held (Err why) before now → HasCounts held why before now reads
  other_counts other some few faulted = record {
    few = few;
    may = subst (λ (b : Bool). LoadMayRead b reads) (sym other) (some, few);
    faulted = faulted;
  }

rows_counts : (held : Option FileMap) (old : Loaded) (segments : List Segment) (before now rows reads : ℕ) (why : LoaderFault) → reads ≡ 1 + rows → IsRowsRefusal held old segments before now rows why
    → HasCounts held why before now reads
rows_counts held old segments before now rows reads why sum (IsCrowded full is same none) = full_counts held why before now reads is (omega (arith, sum, none)) same
rows_counts held old segments before now rows reads why sum (RowStops fit read) =
    let end = rows_end held (paths_of segments) before now (Stops rows why) read in
    other_counts held why before now reads end.1 (omega (arith, sum)) (omega (arith, sum, end.2, few_paths segments)) end.0
rows_counts held old segments before now rows reads why sum (IsLost fit all read lost many) =
    let end = rows_end held (paths_of segments) before now (Joins all) read in
    let other = lost_safe (map (map head_of) all) segments why lost in
    other_counts held why before now reads other.1 (omega (arith, sum)) (omega (arith, sum, many, end.1, few_paths segments)) (other_fault Started held why before now other.0 end.0)
rows_counts held old segments before now rows reads why sum (CantBegin fit all read none cant many) =
    let end = rows_end held (paths_of segments) before now (Joins all) read in
    let other = begin_safe old.memory (first_id + length old.users) (map head_of segments) why cant in
    other_counts held why before now reads other.1 (omega (arith, sum)) (omega (arith, sum, many, end.1, few_paths segments)) (other_fault Started held why before now other.0 end.0)
rows_counts held old segments before now rows reads why sum (RowsLackMemory is same few) =
    other_counts held why before now reads (ap is_full_fault is) (omega (arith, sum)) (omega (arith, sum, few)) (other_fault Started held why before now (ap is_unread_fault is) same)

load_counts : (held : Option FileMap) (old : Loaded) (path : List ℕ) (before now reads : ℕ) (why : LoaderFault) → IsLoadRefusal held old path before now reads why → HasCounts held why before now reads
load_counts held old path before now reads why (IsFull full is same none) = full_counts held why before now reads is (omega (arith, none)) same
load_counts held old path before now reads why (CantRead few cause is one) =
    other_counts held why before now reads (ap is_full_fault is) (omega (arith, one)) (omega (arith, one)) (unread_fault Started held path why before now is cause)
load_counts held old path before now reads why (LacksMemory few is same one) =
    other_counts held why before now reads (ap is_full_fault is) (omega (arith, one)) (omega (arith, one)) (other_fault Started held why before now (ap is_unread_fault is) same)
load_counts held old path before now reads why (IsBad few file is_read bad first is same one) =
    other_counts held why before now reads (ap is_full_fault is) (omega (arith, one)) (omega (arith, one)) (other_fault Started held why before now (ap is_unread_fault is) same)
load_counts held old path before now reads why (CantStart segments is rows cant sum) = rows_counts held old segments before now rows reads why sum cant

-- ---- lines

module _ (old new : Loaded) (path : List ℕ) (before now : StoreSeen) (held : now.held ≡ before.held) where
  abbrev Meets' : Reply → Type 0
  Meets' reply = (files : FileMap) (state : Machine) → before.held ≡ Some files → Agrees files old state → MeetsReads RoomRule files state (Load path) reply new before now

  abbrev Loads : Result Started LoaderFault → Type 0
  Loads result = (reads : ℕ) × HasLoaded before.held old path result new before.faults now.faults reads × (now.asked ≡ saturating_sum reads before.asked)

  -- a load that gave a program
  pub load_started : (line : Result (List ℕ) LineFault) (started : Started) → IfOk line (λ text. text ≡ reply_line (load_reply (Ok started))) → Loads (Ok started) → Meets' (load_reply (Ok started))
      → HasLine line (Load path) old new before now
  load_started line started text (reads, (segments, is, rows, has, sum), count) meets =
      let end = rows_end before.held (paths_of segments) before.faults now.faults (Joins has.all) has.read in
      let few : reads ≤ most_reads = omega (arith, sum, has.rows', end.1, few_paths segments) in
      read_line (Load path) most_reads old new before now held (λ none. none) line (load_reply (Ok started)) reads few (good_text line (load_reply (Ok started)) (λ same. absurd cc) text)
      (omega (arith, sum), few) count (inl end.0) (λ none. end.0) meets

  -- and one that was refused
  pub load_refused : (line : Result (List ℕ) LineFault) (why : LoaderFault) → IfOk line (λ text. (why ≢ faults.Memory) × (text ≡ reply_line (commands.Refused why))) → Loads (Err why) → Meets' (load_reply (Err why))
      → HasLine line (Load path) old new before now
  load_refused line why text (reads, (refusal, same), count) meets =
      let counts = load_counts before.held old path before.faults now.faults reads why refusal in
      read_line (Load path) most_reads old new before now held (λ none. none) line (commands.Refused why) reads counts.few (bad_text line why text) counts.may count counts.faulted.0 counts.faulted.1 meets
