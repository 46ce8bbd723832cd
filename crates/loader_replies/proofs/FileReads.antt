-- A command that may read files: what it reads, its answer and its line.
use Rattle.std.proofs.Common.{◌≡◌, ◌≢◌, inl, inr, ℕ, true, false, ◌≤◌, List, [], ◌∷◌, length, Bool, Option, Some, None, Result, Ok, Err, refl, sym, ap, subst, arith}
use Rattle.std.specs.Prelude.{IfOk}
use Rattle.omf_io.specs.Counts.{one_more, saturating_sum}
use Rattle.omf_io.specs.Files.{FileMap, StoreSeen, IsUnread}
use Rattle.omf_base.specs.declared.line.LineFault.{LineFault}
use Rattle.loader_machine.specs.Rule.{RoomRule}
use Rattle.loader_machine.specs.declared.faults.LoaderFault.{LoaderFault}
use Rattle.loader_machine.specs.declared.faults.LoaderFault.TheVariants as faults
use Rattle.loader_machine.specs.State.{Machine}
use Rattle.loader_machine.specs.Commands as commands
use Rattle.loader_machine.specs.Commands.{Command, Load, LoadSegment, Jsl, Restart, Reply}
use Rattle.loader_machine.specs.Needs.{Needs, NeedsAfter, IsReadFor, path_if}
use Rattle.loader_machine.specs.Refusals.{Refuse}
use Rattle.loader_machine.specs.Transcript.{IsAnswered}
use Rattle.loader_machine.specs.Replies.{reply_line}
use Rattle.loader_agrees.specs.Agrees.{Loaded, Agrees, Meets, ReadsNeeded, MeetsReads}
use Rattle.loader_replies.specs.Replied.{unread, MayRead, ReadsAtMost, IsUnanswered}
use Rattle.loader_replies.proofs.Words.{OnceAtMost}
use Rattle.loader_replies.specs.Answered.{HasLine, IsAnswer}
use Rattle.loader_replies.proofs.OneCommand.{OneReported}

-- ---- commands that read

pub unread_untold : (held : Option FileMap) (path : List ℕ) (before now : ℕ) → held ≡ None → IsUnread held path before now → now ≡ one_more before
unread_untold held path before now none unread = go (subst (λ (h : Option FileMap). IsUnread h path before now) none unread)
  where
    go : IsUnread None path before now → now ≡ one_more before
    go (inl rose) = rose
    go (inr (inl rose)) = rose
    go (inr (inr rose)) = rose

pub unread_once : (held : Option FileMap) (path : List ℕ) (before now : ℕ) → IsUnread held path before now → OnceAtMost before now
unread_once None path before now (inl rose) = inr rose
unread_once None path before now (inr (inl rose)) = inr rose
unread_once None path before now (inr (inr rose)) = inr rose
unread_once (Some files) path before now (inl absent) = inl absent.1
unread_once (Some files) path before now (inr (inl long)) = inl long.1
unread_once (Some files) path before now (inr (inr rose)) = inr rose

-- a count stays, or is one more
abbrev Counted : Reply → ℕ → ℕ → Type 0
Counted reply before now = now ≡ saturating_sum (unread (reply ∷ [])) before

-- ---- reads that fail

few_as : (a b : List (List ℕ)) → a ≡ b → length b ≤ 1 → length a ≤ 1
few_as a b is few = subst (λ (l : List (List ℕ)). length l ≤ 1) (sym is) few

one_if : (paths : List (List ℕ)) (r : Refuse) (needed : Bool) (path : List ℕ) → paths ≡ path_if r needed path → length paths ≤ 1
one_if paths (Some why) needed path is = few_as paths [] is (omega arith)
one_if paths None true path is = few_as paths (path ∷ []) is (omega arith)
one_if paths None false path is = few_as paths [] is (omega arith)

-- no command needs two files, but for those of rows
one_needed : (files : FileMap) (state : Machine) (command : Command) (paths : List (List ℕ)) → Needs files state command paths → length paths ≤ 1
one_needed files state (Load path) paths is = one_if paths _ true path is
one_needed files state (LoadSegment user segment) paths (inl none) = few_as paths [] none.1 (omega arith)
one_needed files state (LoadSegment user segment) paths (inr its) = one_if paths _ _ _ its.1
one_needed files state (Jsl user segment at) paths (inl its) = one_if paths None _ _ its.5
one_needed files state (Jsl user segment at) paths (inr none) = few_as paths [] none.1 (omega arith)
one_needed files state (Restart user) paths (inl none) = few_as paths [] none.1 (omega arith)
one_needed files state (Restart user) paths (inr its) = one_if paths _ _ _ its.1
one_needed files state _ paths is = few_as paths [] is (omega arith)

-- where no file is needed after the first, as many are read where a read fails as where none does
failed_reads : (files : FileMap) (state : Machine) (command : Command) (before now : ℕ) → ((rows : List (List ℕ)) (following : ℕ) → NeedsAfter files state command rows following → following ≡ 0)
    → ReadsNeeded files state command 0 before now → ReadsNeeded files state command 1 before now
failed_reads files state command before now none (reads, (first, needs, inl its), count) =
    let few = one_needed files state command first needs in
    let all : reads ≡ length first = omega (arith, its.4, none its.1 its.2 its.3) in
    (reads, (first, needs, inr (omega (arith, all), omega (arith, all), few)), count)
failed_reads files state command before now none (reads, (first, needs, inr its), count) = (reads, (first, needs, inr (its.0, its.1, omega (arith, its.2))), count)

-- a command that reads one file at most meets the machine, and reads what that needs
pub meets_reads : (files : FileMap) (state : Machine) (command : Command) (reply : Reply) (new : Loaded) (before now : StoreSeen)
    → ((rows : List (List ℕ)) (following : ℕ) → NeedsAfter files state command rows following → following ≡ 0) → ReadsNeeded files state command 0 before.asked now.asked
    → Meets RoomRule files state command reply new before.faults now.faults → MeetsReads RoomRule files state command reply new before now
meets_reads files state command reply new before now none reads (inl met) = inl (met.0, met.1, reads)
meets_reads files state command reply new before now none reads (inr (inl cannot)) =
    inr (inl (cannot.0, cannot.1, cannot.2, cannot.3, cannot.4, cannot.5, failed_reads files state command before.asked now.asked none reads))
meets_reads files state command reply new before now none reads (inr (inr short)) =
    inr (inr (short.0, short.1, short.2, failed_reads files state command before.asked now.asked none reads))

-- ---- a command that may read files is answered

module _ (command : Command) (most : ℕ) (old new : Loaded) (before now : StoreSeen) (held : now.held ≡ before.held) (as_unanswered : ReadsAtMost most before now → IsUnanswered command before now) where
  store_is : now ≡ record before { faults = now.faults; asked = now.asked }
  store_is = ap (λ (h : Option FileMap). record { held = h; faults = now.faults; asked = now.asked }) held

  -- over revealed files: the machine's reply, or `cannot read`
  reported_answer : (files : FileMap) (state : Machine) (reply : Reply) → reply ≢ commands.Refused faults.Memory → MeetsReads RoomRule files state command reply new before now
      → (others : ℕ) × (reads : ℕ) × (next : Machine) × IsAnswered files state command reply others next × IsReadFor files state command others reads × Agrees files new next
      × (now.faults ≡ saturating_sum others before.faults) × (now.asked ≡ saturating_sum reads before.asked)
  reported_answer files state reply other (inl (met, same, reads)) = (0, reads.0, met.0, inl (met.1, refl), reads.1, met.2, same, reads.2)
  reported_answer files state reply other (inr (inl (is, paths, needs, some, agrees, rose, reads))) = (1, reads.0, state, inr (is, paths, needs, some, refl, refl), reads.1, agrees, rose, reads.2)
  reported_answer files state reply other (inr (inr short)) = absurd (other short.0)

  -- the machine's answer, or none when out of memory
  abbrev Meets' : Reply → Type 0
  Meets' reply = (files : FileMap) (state : Machine) → before.held ≡ Some files → Agrees files old state → MeetsReads RoomRule files state command reply new before now

  pub read_answer : (reply : Reply) (n : ℕ) → n ≤ most → MayRead command reply n → now.asked ≡ saturating_sum n before.asked → OnceAtMost before.faults now.faults → reply ≢ commands.Refused faults.Memory
      → (before.held ≡ None → Counted reply before.faults now.faults) → Meets' reply → IsAnswer command old reply new before now
  read_answer reply n few may is faults_once other untold meets = record {
    reported = go before.held refl;
    store = store_is;
    unanswered = as_unanswered (n, few, is, faults_once, store_is);
  }
    where
      go : (h : Option FileMap) → before.held ≡ h → OneReported command reply old new before now h
      go None none = (n, may, untold none, is)
      go (Some files) reported = λ state agrees. reported_answer files state reply other (meets files state reported agrees)

  -- its line, or none
  pub read_line : (line : Result (List ℕ) LineFault) (reply : Reply) (n : ℕ) → n ≤ most → IfOk line (λ text. (reply ≢ commands.Refused faults.Memory) × (text ≡ reply_line reply))
      → MayRead command reply n → now.asked ≡ saturating_sum n before.asked → OnceAtMost before.faults now.faults
      → (before.held ≡ None → Counted reply before.faults now.faults) → Meets' reply → HasLine line command old new before now
  read_line (Ok text) reply n few is may asked faults_once untold meets = (reply, read_answer reply n few may asked faults_once is.0 untold meets, is.1)
  read_line (Err short) reply n few is may asked faults_once untold meets = as_unanswered (n, few, asked, faults_once, store_is)

-- a reply that is no refusal
pub good_text : (line : Result (List ℕ) LineFault) (reply : Reply) → reply ≢ commands.Refused faults.Memory → IfOk line (λ text. text ≡ reply_line reply)
    → IfOk line (λ text. (reply ≢ commands.Refused faults.Memory) × (text ≡ reply_line reply))
good_text (Ok text) reply other is = (other, is)
good_text (Err short) reply other is = tt

-- and one that is
pub bad_text : (line : Result (List ℕ) LineFault) (why : LoaderFault) → IfOk line (λ text. (why ≢ faults.Memory) × (text ≡ reply_line (commands.Refused why)))
    → IfOk line (λ text. (commands.Refused why ≢ commands.Refused faults.Memory) × (text ≡ reply_line (commands.Refused why)))
bad_text (Ok text) why is = ((λ same. is.0 (fault_same why same)), is.1)
  where
    fault_same : (f : LoaderFault) → commands.Refused f ≡ commands.Refused faults.Memory → f ≡ faults.Memory
    fault_same f e = cc
bad_text (Err short) why is = tt
