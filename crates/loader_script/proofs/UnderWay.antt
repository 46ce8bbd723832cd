-- A run of a script on its way: it begins, it goes on, it stops, and it ends.
use Rattle.std.proofs.Common.{◌≡◌, inl, ℕ, zero, suc, Bool, true, false, ◌+◌, ◌≤◌, List, [], ◌∷◌, ◌++◌, length, take, Option, Some, None, Result, Ok, Err, refl, sym, ap, subst, ◌∙◌, arith, add-one}
use Rattle.std.specs.Prelude.{slice_get}
use Rattle.omf_io.specs.Files.{FileMap, StoreSeen}
use Rattle.omf_io.specs.Sinks.{SinkSeen, FailsToPrint}
use Rattle.omf_io.specs.Outside.{Outside, outside}
use Rattle.loader_machine.specs.State.{empty_of}
use Rattle.loader_machine.specs.Commands as step
use Rattle.loader_machine.specs.Commands.{Command, Banks, Load, LoadSegment, Jsl, Restart, Bytes}
use Rattle.iigs_meaning.specs.Blocks.{new_slots}
use Rattle.loader_machine.specs.Replies.{reply_line}
use Rattle.loader_machine.specs.Script.{IsCommand, AreCommands}
use Rattle.loader_agrees.specs.Agrees.{Loaded, Agrees}
use Rattle.loader_replies.specs.declared.command.ReplyStop.{ReplyStop}
use Rattle.loader_replies.specs.declared.command.ReplyStop.TheVariants as stop
use Rattle.loader_replies.specs.Replied.{AreReplies, IsUnanswered}
use Rattle.loader_script.specs.Run.{HasRunAll, StopsShort}
use Rattle.loader_replies.specs.Answered.{HasPrinted, IsAnswer, IsFirstLoader, HasAnswered}
use Rattle.loader_script.specs.Running.{IsUnderWay, HasFinished}
use Rattle.loader_replies.proofs.OneCommand.{OneReported, idle_reads, answered}
use Rattle.loader_script.proofs.Transcripts.{AllReported, more_replied, forget, printed_more, with_text-none}

-- what represents the loader before there is one
abbrev pub no_loader : Loaded
no_loader = record { memory = record { banks = []; slots = new_slots; bytes = [] }; users = [] }

-- ---- the first command

agrees_yet : (files : FileMap) → Agrees files no_loader (empty_of [])
agrees_yet files = record {
  banks = refl;
  slots = refl;
  users = refl;
  attached = record { few = λ place kept made. absurd cc; each = λ place i n kept made is. absurd cc; once = λ place other i j n one two made made' is is'. absurd cc };
  entries = λ place number k kept segments s t made holds is table found above. absurd cc;
  each = λ place kept user is made. absurd cc;
}

pub nothing_yet : (store : StoreSeen) (sink : SinkSeen) → IsUnderWay [] no_loader (outside store store sink sink)
nothing_yet store sink = record {
  replies = [];
  answered = record { one_each = refl; reported = go store.held; store = refl };
  printed = with_text-none sink;
}
  where
    go : (h : Option FileMap) → AllReported (λ files last. Agrees files no_loader last) [] [] store store h
    go None = (0, refl, refl, refl)
    go (Some files) = (0, 0, empty_of [], (refl, refl, refl), agrees_yet files, refl, refl)

-- the banks of the first command
first_answer : (store : StoreSeen) (command : Command) (loader : Loaded) → IsFirstLoader command loader → IsAnswer command no_loader step.Okay loader store store
first_answer store (Banks banks) loader is = record { reported = go store.held; store = refl; unanswered = refl }
  where
    go : (h : Option FileMap) → OneReported (Banks banks) step.Okay no_loader loader store store h
    go None = (0, refl, refl, refl)
    go (Some files) = λ state agrees. (0, 0, empty_of banks, inl ((refl, refl), refl), idle_reads files state (Banks banks) refl, is files, refl, refl)
first_answer store _ loader is = absurd is

pub first_answered : (store : StoreSeen) (sink new_sink : SinkSeen) (command : Command) (loader : Loaded) (result : Result (Unit {0}) ReplyStop) → IsFirstLoader command loader
    → HasPrinted result (reply_line step.Okay) sink new_sink → HasAnswered result command no_loader loader (outside store store sink new_sink)
first_answered store sink new_sink command loader result is printed =
    answered result command no_loader loader step.Okay (outside store store sink new_sink) (first_answer store command loader is) printed

-- ---- one command more

module _ (s s₁ s₂ : StoreSeen) (k k₁ k₂ : SinkSeen) (commands : List Command) (command : Command) (old new : Loaded)
    (so_far : IsUnderWay commands old (outside s s₁ k k₁)) where
  -- it goes on
  goes_on : HasAnswered (Ok tt) command old new (outside s₁ s₂ k₁ k₂) → IsUnderWay (commands ++ command ∷ []) new (outside s s₂ k k₂)
  goes_on done = record {
    replies = so_far.replies ++ done.0 ∷ [];
    answered = more_replied commands so_far.replies command done.0 old new s s₁ s₂ so_far.answered done.1;
    printed = printed_more so_far.replies done.0 k k₁ k₂ so_far.printed done.2;
  }

  -- or it stops
  stops : (rest : List Command) (why : ReplyStop) → HasAnswered (Err why) command old new (outside s₁ s₂ k₁ k₂) → HasFinished (Err why) (commands ++ command ∷ rest) (outside s s₂ k k₂)
  stops rest stop.CannotPrint done = record {
    front = commands;
    next = command;
    rest = rest;
    commands_are = refl;
    replies = so_far.replies;
    reply = done.0;
    answered = forget _ _ (commands ++ command ∷ []) (so_far.replies ++ done.0 ∷ []) s s₂ (λ files last agrees. tt)
        (more_replied commands so_far.replies command done.0 old new s s₁ s₂ so_far.answered done.1);
    printed = subst (λ (sink : SinkSeen). FailsToPrint (reply_line done.0) sink k₂) so_far.printed done.2;
  }
  stops rest stop.Memory done = record {
    front = commands;
    next = command;
    rest = rest;
    commands_are = refl;
    replies = so_far.replies;
    between = s₁;
    answered = forget _ _ commands so_far.replies s s₁ (λ files last agrees. tt) so_far.answered;
    unanswered = done.0;
    printed = done.1 ∙ so_far.printed;
  }

-- ---- the list of commands

same_some : (a b : Command) → Some a ≡ Some b → a ≡ b
same_some a b e = cc

-- the commands so far, the next one, and the rest
split_at : (commands : List Command) (i : ℕ) (c : Command) → slice_get commands i ≡ Some c → (rest : List Command) × (commands ≡ take i commands ++ c ∷ rest)
split_at [] i c is = absurd (cc)
split_at (d ∷ commands) zero c is = (commands, ap (λ (x : Command). x ∷ commands) (same_some d c is))
split_at (d ∷ commands) (suc i) c is = let later = split_at commands i c is in (later.0, ap (λ (cs : List Command). d ∷ cs) later.1)

take_next : (commands : List Command) (i : ℕ) (c : Command) → slice_get commands i ≡ Some c → take (suc i) commands ≡ take i commands ++ c ∷ []
take_next [] i c is = absurd (cc)
take_next (d ∷ commands) zero c is = ap (λ (x : Command). x ∷ []) (same_some d c is)
take_next (d ∷ commands) (suc i) c is = ap (λ (cs : List Command). d ∷ cs) (take_next commands i c is)

module _ (s s₁ s₂ : StoreSeen) (k k₁ k₂ : SinkSeen) (commands : List Command) (i : ℕ) (command : Command) (old new : Loaded)
    (so_far : IsUnderWay (take i commands) old (outside s s₁ k k₁)) (here : slice_get commands i ≡ Some command) where
  -- past the command at a place
  pub goes_past : HasAnswered (Ok tt) command old new (outside s₁ s₂ k₁ k₂) → IsUnderWay (take (i + 1) commands) new (outside s s₂ k k₂)
  goes_past done =
      let front : take i commands ++ command ∷ [] ≡ take (i + 1) commands = sym (take_next commands i command here) ∙ ap (λ (n : ℕ). take n commands) (sym (add-one i)) in
      subst (λ (cs : List Command). IsUnderWay cs new (outside s s₂ k k₂)) front (goes_on s s₁ s₂ k k₁ k₂ (take i commands) command old new so_far done)

  -- or not
  pub stops_at : (why : ReplyStop) → HasAnswered (Err why) command old new (outside s₁ s₂ k₁ k₂) → HasFinished (Err why) commands (outside s s₂ k k₂)
  stops_at why done =
      let parts = split_at commands i command here in
      subst (λ (cs : List Command). HasFinished (Err why) cs (outside s s₂ k k₂)) (sym parts.1)
      (stops s s₁ s₂ k k₁ k₂ (take i commands) command old new so_far parts.0 why done)

-- a command after the first keeps its bounds
following : (is_first : Bool) (commands : List Command) (i : ℕ) (c : Command) → AreCommands is_first commands → slice_get commands (suc i) ≡ Some c → IsCommand false c
following is_first [] i c are is = absurd (cc)
following is_first (d ∷ []) i c are is = absurd (cc)
following is_first (d ∷ e ∷ commands) zero c are is = subst (IsCommand false) (same_some e c is) are.1.0
following is_first (d ∷ e ∷ commands) (suc i) c are is = following false (e ∷ commands) i c are.1 is

pub later_command : (commands : List Command) (i : ℕ) (c : Command) → AreCommands true commands → 1 ≤ i → slice_get commands i ≡ Some c → IsCommand false c
later_command commands zero c are some is = absurd (omega arith)
later_command commands (suc i) c are some is = following true commands i c are is

-- and so does the first
pub first_command : (commands : List Command) (c : Command) → AreCommands true commands → slice_get commands 0 ≡ Some c → IsCommand true c
first_command [] c are is = absurd (cc)
first_command (d ∷ commands) c are is = subst (IsCommand true) (same_some d c is) are.0

take_all : (commands : List Command) (i : ℕ) → length commands ≤ i → take i commands ≡ commands
take_all [] zero le = refl
take_all [] (suc i) le = refl
take_all (c ∷ commands) zero le = absurd (omega arith)
take_all (c ∷ commands) (suc i) le = ap (λ (cs : List Command). c ∷ cs) (take_all commands i (omega arith))

some_first : (commands : List Command) (c : Command) → slice_get commands 0 ≡ Some c → commands ≡ [] → ⊥
some_first [] c is none = absurd (cc)
some_first (d ∷ commands) c is none = absurd (cc)

-- where all were run, it ends
pub ended : (commands : List Command) (i : ℕ) (first : Command) (loader : Loaded) (o : Outside) → length commands ≤ i → slice_get commands 0 ≡ Some first → IsUnderWay (take i commands) loader o
    → HasRunAll (Some loader) commands o
ended commands i first loader o le is run = record {
  replies = run.replies;
  answered = subst (λ (cs : List Command). AreReplies (λ files last. Agrees files loader last) cs run.replies o.store o.new_store) (take_all commands i le) run.answered;
  handed = (λ some. some_first commands first is, λ some. refl);
  printed = run.printed;
}

-- and a script without commands at once
pub ended_empty : (commands : List Command) (store : StoreSeen) (sink : SinkSeen) → length commands ≤ 0 → HasRunAll None commands (outside store store sink sink)
ended_empty [] store sink none =
    let run = nothing_yet store sink in
    record { replies = run.replies; answered = forget _ _ [] run.replies store store (λ files last agrees. tt) run.answered; handed = (λ some. absurd (cc), λ some. absurd (some refl)); printed = run.printed }
ended_empty (c ∷ commands) store sink none = absurd (omega arith)

-- without memory for the loader nothing was run
pub no_memory : (commands : List Command) (first : Command) (store : StoreSeen) (sink : SinkSeen) → IsCommand true first → slice_get commands 0 ≡ Some first
    → StopsShort commands (outside store store sink sink)
no_memory [] first store sink is here = absurd (cc)
no_memory (c ∷ commands) first store sink is here =
    let run = nothing_yet store sink in record {
      front = [];
      next = c;
      rest = commands;
      commands_are = refl;
      replies = run.replies;
      between = store;
      answered = forget _ _ [] run.replies store store (λ files last agrees. tt) run.answered;
      unanswered = idle c (subst (IsCommand true) (sym (same_some c first here)) is);
      printed = run.printed;
    }
  where
    idle : (command : Command) → IsCommand true command → IsUnanswered command store store
    idle (Banks banks) are = refl
    idle (Load path) are = absurd (cc)
    idle (LoadSegment user segment) are = absurd (cc)
    idle (Jsl user segment at) are = absurd (cc)
    idle (Restart user) are = absurd (cc)
    idle (Bytes user number at count) are = absurd (cc)
    idle _ are = refl
