-- One call of the workload, and one call more.
use Rattle.std.proofs.Common.{◌≡◌, ◌≢◌, inl, inr, ℕ, zero, suc, ◌+◌, ◌-◌, ◌*◌, ◌/◌, ◌%◌, ◌≤◌, Bool, true, cond, List, [], ◌∷◌, ◌++◌, map, Some, Result, Ok, Err, refl, sym, ap, subst, ◌∙◌, arith, add-one}
use Rattle.std.specs.Prelude.{count_by, IfOk, OnOk, nat_le}
use Rattle.std.proofs.lemmas.Bool.{le-leb}
use Rattle.std.proofs.lemmas.List.{map-append}
use Rattle.std.proofs.lemmas.List.Sums.{sum_by-append}
use Rattle.omf_io.specs.Counts.{one_more}
use Rattle.omf_io.specs.Files.{FileMap}
use Rattle.loader_machine.specs.Rule.{RoomRule}
use Rattle.loader_machine.specs.declared.faults.LoaderFault.{LoaderFault}
use Rattle.loader_machine.specs.declared.faults.LoaderFault.TheVariants as faults
use Rattle.loader_machine.specs.State.{Machine, first_id, empty_of}
use Rattle.loader_machine.specs.Commands.{Command, Load, Jsl, Reply}
use Rattle.loader_machine.specs.Commands as commands
use Rattle.loader_machine.specs.Needs.{Needs, NeedsAfter, IsReadFor}
use Rattle.loader_machine.specs.Transcript.{IsAnswered, AreAnswered}
use Rattle.loader_agrees.specs.Agrees.{Loaded, Agrees, Met, Meets, MeetsReads, ReadsNeeded}
use Rattle.workload.specs.declared.rounds.RoundOutcome.{RoundOutcome}
use Rattle.workload.specs.declared.rounds.RoundOutcome.TheVariants.{Refused as Fails}
use Rattle.workload.specs.declared.rounds.Counts.{Counts}
use Rattle.workload.specs.Store.{StoreContent, seen}
use Rattle.workload_meaning.specs.Draws.{next, draws, following}
use Rattle.workload.specs.Rounds.{banks, program, round_of, is_entered, is_refused}
use Rattle.workload.specs.Work.{IsSum, HasWorked}
use Rattle.workload.specs.Answering.{outcome_of, counted, IsStep, HasDone, AreDone, front_of}

-- ---- one call

-- a call that needs no file reads none
pub none_read : (held : FileMap) (state : Machine) (command : Command) → Needs held state command [] → NeedsAfter held state command [] 0 → IsReadFor held state command 0 0
none_read held state command none following = ([], none, inl (refl, [], 0, following, refl))

-- a call that reads no file
pub quiet_step : (held : FileMap) (state : Machine) (command : Command) (reply : Reply) (outcome : RoundOutcome) (new : Loaded) → IsReadFor held state command 0 0 → outcome ≡ outcome_of reply
    → Met RoomRule held state command reply new → IsStep held state command outcome new
quiet_step held state command reply outcome new none is met = record {
  reply = reply;
  reads = 0;
  next = met.0;
  answered = inl (met.1, refl);
  read = none;
  agrees = met.2;
  comes = is;
}

-- such a call was done
pub quiet_done : (command : Command) (reply : Reply) (outcome : RoundOutcome) (old new : Loaded) → ((held : FileMap) (state : Machine) → IsReadFor held state command 0 0) → outcome ≡ outcome_of reply
    → ((held : FileMap) (state : Machine) → Agrees held old state → Met RoomRule held state command reply new) → (held : FileMap) → HasDone held command outcome old new
quiet_done command reply outcome old new none is meets held = λ state agrees. quiet_step held state command reply outcome new (none held state) is (meets held state agrees)

-- or refused
pub quiet_refused : (command : Command) (fault : LoaderFault) (E : Type 0) (result : Result RoundOutcome E) (old new : Loaded) → ((held : FileMap) (state : Machine) → IsReadFor held state command 0 0)
    → IfOk result (λ outcome. outcome ≡ Fails) → ((held : FileMap) (state : Machine) → Agrees held old state → Met RoomRule held state command (commands.Refused fault) new)
    → IfOk result (λ outcome. (held : FileMap) → HasDone held command outcome old new)
quiet_refused command fault E (Ok outcome) old new none is meets = quiet_done command (commands.Refused fault) outcome old new none is meets
quiet_refused command fault E (Err short) old new none is meets = tt

-- ---- a call that may read, over a store that reveals its files and never fails

module _ (command : Command) (old new : Loaded) (before now : StoreContent) where
  -- it is answered as by the machine, and reads what that needs
  abbrev Reading' : Reply → Type 0
  Reading' reply = (held : FileMap) (state : Machine) → (seen before).held ≡ Some held → Agrees held old state
      → Met RoomRule held state command reply new × ReadsNeeded held state command 0 before.asked now.asked

  never : 0 ≡ one_more 0 → ⊥
  never e = cc

  -- it reads one file at most, and memory didn't run out
  pub by_meets : (reply : Reply) → reply ≢ commands.Refused faults.Memory
      → ((held : FileMap) (state : Machine) → (seen before).held ≡ Some held → Agrees held old state → Meets RoomRule held state command reply new 0 0)
      → ((held : FileMap) (state : Machine) → (seen before).held ≡ Some held → Agrees held old state → ReadsNeeded held state command 0 before.asked now.asked) → Reading' reply
  by_meets reply other meets needed = λ held state reported agrees. (by_case held state (meets held state reported agrees), needed held state reported agrees)
    where
      by_case : (held : FileMap) (state : Machine) → Meets RoomRule held state command reply new 0 0 → Met RoomRule held state command reply new
      by_case held state (inl met) = met.0
      by_case held state (inr (inl cannot)) = absurd (never cannot.5)
      by_case held state (inr (inr short)) = absurd (other short.0)

  -- it may read several
  pub by_reads : (reply : Reply) → reply ≢ commands.Refused faults.Memory
      → ((held : FileMap) (state : Machine) → (seen before).held ≡ Some held → Agrees held old state → MeetsReads RoomRule held state command reply new (seen before) (seen now)) → Reading' reply
  by_reads reply other meets = λ held state reported agrees. by_case held state (meets held state reported agrees)
    where
      by_case : (held : FileMap) (state : Machine) → MeetsReads RoomRule held state command reply new (seen before) (seen now)
          → Met RoomRule held state command reply new × ReadsNeeded held state command 0 before.asked now.asked
      by_case held state (inl met) = (met.0, met.2)
      by_case held state (inr (inl cannot)) = absurd (never cannot.5)
      by_case held state (inr (inr short)) = absurd (other short.0)

  -- it was done
  pub reading_done : (reply : Reply) (outcome : RoundOutcome) → outcome ≡ outcome_of reply → Reading' reply → HasDone before.files command outcome old new
  reading_done reply outcome is reads = λ state agrees.
      let both = reads before.files state refl agrees in
      record {
        reply = reply;
        reads = both.1.0;
        next = both.0.0;
        answered = inl (both.0.1, refl);
        read = both.1.1;
        agrees = both.0.2;
        comes = is;
      }

  -- or refused
  pub reading_refused : (fault : LoaderFault) (E : Type 0) (result : Result RoundOutcome E) → OnOk result (fault ≢ faults.Memory) → IfOk result (λ outcome. outcome ≡ Fails)
      → ((commands.Refused fault ≢ commands.Refused faults.Memory) → Reading' (commands.Refused fault)) → IfOk result (λ outcome. HasDone before.files command outcome old new)
  reading_refused fault E (Ok outcome) other is reads = reading_done (commands.Refused fault) outcome is (reads (λ same. other (same_fault fault same)))
    where
      same_fault : (f : LoaderFault) → commands.Refused f ≡ commands.Refused faults.Memory → f ≡ faults.Memory
      same_fault f e = cc
  reading_refused fault E (Err short) other is reads = tt

-- ---- one call more

no_others : (here later : ℕ) → 0 ≡ here + later → (here ≡ 0) × (later ≡ 0)
no_others here later e = (omega (arith, e), omega (arith, e))

pub answered_more : (held : FileMap) (state mid last : Machine) (commands : List Command) (replies : List Reply) (reads : ℕ) (command : Command) (reply : Reply) (read : ℕ)
    → AreAnswered held state commands replies 0 reads mid → IsAnswered held mid command reply 0 last → IsReadFor held mid command 0 read
    → AreAnswered held state (commands ++ command ∷ []) (replies ++ reply ∷ []) 0 (reads + read) last
answered_more held state mid last [] [] reads command reply read (none, no_reads, same) is for =
    (0, 0, read, 0, last, subst (λ (s : Machine). IsAnswered held s command reply 0 last) same is, subst (λ (s : Machine). IsReadFor held s command 0 read) same for, (refl, refl, refl), refl, omega (arith, no_reads))
answered_more held state mid last [] (other ∷ replies) reads command reply read are is for = absurd are
answered_more held state mid last (first ∷ commands) [] reads command reply read are is for = absurd are
answered_more held state mid last (first ∷ commands) (other ∷ replies) reads command reply read (here, later, r, rs, next, one, its, rest, sum, sums) is for =
    let zeros = no_others here later sum in
    let following = answered_more held next mid last commands replies rs command reply read (subst (λ (k : ℕ). AreAnswered held next commands replies k rs mid) zeros.1 rest) is for in
    (here, 0, r, rs + read, next, one, its, following, omega (arith, zeros.0), omega (arith, sums))

count_more : (test : Reply → Bool) (replies : List Reply) (reply : Reply) → count_by test (replies ++ reply ∷ []) ≡ count_by test replies + count_by test (reply ∷ [])
count_more test replies reply = sum_by-append (λ (r : Reply). cond (test r) 1 0) replies (reply ∷ [])

entered_more : (counts : Counts) (reply : Reply) → (counted (outcome_of reply) counts).entered ≡ counts.entered + count_by is_entered (reply ∷ [])
entered_more counts (commands.Entered user segment offset address) = refl
entered_more counts (commands.Refused fault) = omega arith
entered_more counts commands.Okay = omega arith
entered_more counts (commands.Started user entry) = omega arith
entered_more counts (commands.MadeActive segment address) = omega arith
entered_more counts (commands.Counted count) = omega arith
entered_more counts (commands.Shown bytes) = omega arith
entered_more counts (commands.Lies user segment offset) = omega arith
entered_more counts commands.Nothing = omega arith
entered_more counts (commands.SegmentIs presence size kind) = omega arith
entered_more counts (commands.Placed handle address) = omega arith
entered_more counts (commands.BlockIs state) = omega arith
entered_more counts (commands.RoomIs count) = omega arith
entered_more counts (commands.Moved count) = omega arith

refused_more : (counts : Counts) (reply : Reply) → (counted (outcome_of reply) counts).refused ≡ counts.refused + count_by is_refused (reply ∷ [])
refused_more counts (commands.Entered user segment offset address) = omega arith
refused_more counts (commands.Refused fault) = refl
refused_more counts commands.Okay = omega arith
refused_more counts (commands.Started user entry) = omega arith
refused_more counts (commands.MadeActive segment address) = omega arith
refused_more counts (commands.Counted count) = omega arith
refused_more counts (commands.Shown bytes) = omega arith
refused_more counts (commands.Lies user segment offset) = omega arith
refused_more counts commands.Nothing = omega arith
refused_more counts (commands.SegmentIs presence size kind) = omega arith
refused_more counts (commands.Placed handle address) = omega arith
refused_more counts (commands.BlockIs state) = omega arith
refused_more counts (commands.RoomIs count) = omega arith
refused_more counts (commands.Moved count) = omega arith

pub done_more : (held : FileMap) (commands : List Command) (counts new : Counts) (old loader : Loaded) (command : Command) (outcome : RoundOutcome) → AreDone held commands counts old
    → HasDone held command outcome old loader → new ≡ counted outcome counts → AreDone held (commands ++ command ∷ []) new loader
done_more held commands counts new old loader command outcome so_far has is =
    let step = has so_far.last so_far.agrees in
    let new_is : new ≡ counted (outcome_of step.reply) counts = is ∙ ap (λ (o : RoundOutcome). counted o counts) step.comes in
    record {
      replies = so_far.replies ++ step.reply ∷ [];
      reads = so_far.reads + step.reads;
      last = step.next;
      answered = answered_more held (empty_of banks) so_far.last step.next commands so_far.replies so_far.reads command step.reply step.reads so_far.answered step.answered step.read;
      agrees = step.agrees;
      entered' = ap (λ (c : Counts). c.entered) new_is ∙ entered_more counts step.reply ∙ ap (λ (k : ℕ). k + count_by is_entered (step.reply ∷ [])) so_far.entered' ∙ sym (count_more is_entered so_far.replies step.reply);
      refused' = ap (λ (c : Counts). c.refused) new_is ∙ refused_more counts step.reply ∙ ap (λ (k : ℕ). k + count_by is_refused (step.reply ∷ [])) so_far.refused' ∙ sym (count_more is_refused so_far.replies step.reply);
    }

-- nothing was answered yet
pub nothing_done : (held : FileMap) (counts : Counts) (loader : Loaded) → counts.entered ≡ 0 → counts.refused ≡ 0 → Agrees held loader (empty_of banks) → AreDone held [] counts loader
nothing_done held counts loader none no_refusal agrees = record {
  replies = [];
  reads = 0;
  last = empty_of banks;
  answered = (refl, refl, refl);
  agrees = agrees;
  entered' = none;
  refused' = no_refusal;
}

-- ---- one round more

draws_more : (count x : ℕ) → draws (suc count) x ≡ draws count x ++ (next (following count x) / 65536) ∷ []
draws_more zero x = refl
draws_more (suc count) x = ap (λ (l : List ℕ). next x / 65536 ∷ l) (draws_more count (next x))

after_more : (count x : ℕ) → following (suc count) x ≡ next (following count x)
after_more zero x = refl
after_more (suc count) x = after_more count (next x)

front_more : (n x count : ℕ) → front_of n x count ++ round_of n (next (following count x) / 65536) ∷ [] ≡ front_of n x (count + 1)
front_more n x count =
    let drawn : draws (count + 1) x ≡ draws count x ++ (next (following count x) / 65536) ∷ [] = ap (λ (k : ℕ). draws k x) (add-one count) ∙ draws_more count x in
    ap (λ (l : List Command). Load program ∷ l) (sym (ap (map (round_of n)) drawn ∙ map-append (round_of n) (draws count x) ((next (following count x) / 65536) ∷ [])))

-- a draw of 0 or 1 modulo 4 says a JSL
pub early : (n draw : ℕ) → draw % 4 ≤ 1 → Jsl first_id 1 (4 * (1 + draw / 4 % n - 1)) ≡ round_of n draw
early n draw small = let test : nat_le (draw % 4) 1 ≡ true = le-leb (draw % 4) 1 small in rw test refl

-- `count` rounds were made
pub record IsUnderWay (held files : FileMap) (n x count last : ℕ) (counts : Counts) (loader : Loaded) : Type 0 where
  pub same : files ≡ held
  pub drawn : last ≡ following count x
  pub done : AreDone held (front_of n x count) counts loader
  pub small : counts.entered + counts.refused ≤ count + 1

pub goes_on : (held files more : FileMap) (n x count last drawn next' : ℕ) (counts new : Counts) (old loader : Loaded) (outcome : RoundOutcome) → IsUnderWay held files n x count last counts old
    → drawn ≡ next last / 65536 → next' ≡ next last → more ≡ files → HasDone files (round_of n drawn) outcome old loader → new ≡ counted outcome counts
    → new.entered + new.refused ≤ counts.entered + counts.refused + 1 → IsUnderWay held more n x (count + 1) next' new loader
goes_on held files more n x count last drawn next' counts new old loader outcome way drawn_is next_is files_are has is small = record {
  same = files_are ∙ way.same;
  drawn = next_is ∙ ap next way.drawn ∙ sym (ap (λ (k : ℕ). following k x) (add-one count) ∙ after_more count x);
  done = subst (λ (cs : List Command). AreDone held cs new loader) (front_more n x count)
      (done_more held (front_of n x count) counts new old loader (round_of n (next (following count x) / 65536)) outcome way.done
      (subst (λ (d : ℕ). HasDone held (round_of n d) outcome old loader) (drawn_is ∙ ap (λ (l : ℕ). next l / 65536) way.drawn)
      (subst (λ (f : FileMap). HasDone f (round_of n drawn) outcome old loader) way.same has)) is);
  small = omega (arith, small, way.small);
}

-- ---- the whole run

-- the program was loaded
pub first_done : (held : FileMap) (n x : ℕ) (counts new : Counts) (old loader : Loaded) (outcome : RoundOutcome) → counts.entered ≡ 0 → counts.refused ≡ 0 → Agrees held old (empty_of banks)
    → HasDone held (Load program) outcome old loader → new ≡ counted outcome counts → AreDone held (front_of n x 0) new loader
first_done held n x counts new old loader outcome none no_refusal agrees has is =
    done_more held [] counts new old loader (Load program) outcome (nothing_done held counts old none no_refusal agrees) has is

-- all rounds were made, and the bytes added up
pub has_worked : (held : FileMap) (n seed x count total : ℕ) (counts : Counts) (loader : Loaded) → AreDone held (front_of n x (8 * n)) counts loader → x ≡ following n seed
    → ((files : FileMap) (state : Machine) → Agrees files loader state → IsSum files state count total)
    → (last : Machine) × Agrees held loader last × HasWorked held n seed count counts.entered counts.refused total last
has_worked held n seed x count total counts loader done drawn sums = go x drawn done
  where
    go : (y : ℕ) → y ≡ following n seed → AreDone held (front_of n y (8 * n)) counts loader → (last : Machine) × Agrees held loader last × HasWorked held n seed count counts.entered counts.refused total last
    go y e all =
        let d = subst (λ (z : ℕ). AreDone held (front_of n z (8 * n)) counts loader) e all in (
          d.last,
          d.agrees,
          record {
            replies = d.replies;
            reads = d.reads;
            answered = d.answered;
            entered' = d.entered';
            refused' = d.refused';
            total' = sums held d.last d.agrees;
          },
        )
