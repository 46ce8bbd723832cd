-- A command that is answered, and its line.
use Rattle.std.proofs.Common.{◌≡◌, ◌≢◌, inl, ℕ, true, false, List, [], ◌∷◌, Bool, Option, Some, None, Result, Ok, Err, refl, sym, subst, ◌∙◌}
use Rattle.std.specs.Prelude.{IsSome, IsSomeAnd, IfOk, OnErr}
use Rattle.std.proofs.lemmas.Option.{same_Some}
use Rattle.omf_io.specs.Counts.{saturating_sum, IfRevealedOr}
use Rattle.omf_io.specs.Files.{FileMap, StoreSeen}
use Rattle.omf_io.specs.Outside.{Outside}
use Rattle.omf_base.specs.declared.line.LineFault.{LineFault}
use Rattle.iigs_meaning.specs.declared.handles.Handle.{Handle}
use Rattle.iigs_meaning.specs.declared.wants.Want.{Want}
use Rattle.iigs_meaning.specs.declared.wants.Block.{Block}
use Rattle.iigs_meaning.specs.Slots.{get}
use Rattle.loader_machine.specs.Rule.{RoomRule}
use Rattle.iigs_meaning.specs.Memory.{Memory, IsPlaced}
use Rattle.loader_machine.specs.declared.faults.LoaderFault.{LoaderFault}
use Rattle.loader_machine.specs.declared.faults.LoaderFault.TheVariants as faults
use Rattle.loader_machine.specs.State.{Machine}
use Rattle.loader_machine.specs.laws.Words.{alloc_want, is_locked, level_in, is_movable}
use Rattle.loader_machine.specs.Commands as commands
use Rattle.loader_machine.specs.Commands.{Command, Load, LoadSegment, Jsl, Restart, Reply}
use Rattle.loader_machine.specs.Needs.{IsReadFor}
use Rattle.loader_machine.specs.Transcript.{IsAnswered}
use Rattle.loader_machine.specs.Replies.{reply_line}
use Rattle.loader_agrees.specs.laws.Begun.{puts_here}
use Rattle.loader_agrees.specs.Agrees.{Loaded, Agrees, Met, MetAlloc}
use Rattle.loader_replies.specs.declared.command.ReplyStop.{ReplyStop}
use Rattle.loader_replies.specs.declared.command.ReplyStop.TheVariants as stop
use Rattle.loader_replies.specs.Replied.{is_unread, unread, MayRead, IsUnanswered}
use Rattle.loader_replies.specs.Answered.{HasPrinted, IsLineOf, HasLine, IsAnswer, HasAnswered}

-- ---- one command

-- a line was printed, or there was none
pub answered : (result : Result (Unit {0}) ReplyStop) (command : Command) (old new : Loaded) (reply : Reply) (o : Outside) → IsAnswer command old reply new o.store o.new_store
    → HasPrinted result (reply_line reply) o.sink o.new_sink → HasAnswered result command old new o
answered (Ok done) command old new reply o answer printed = (reply, answer, printed)
answered (Err stop.CannotPrint) command old new reply o answer printed = (reply, answer, printed)
answered (Err stop.Memory) command old new reply o answer printed = (answer.unanswered, printed)

pub line_answered : (line : Result (List ℕ) LineFault) (result : Result (Unit {0}) ReplyStop) (command : Command) (old new : Loaded) (o : Outside) → HasLine line command old new o.store o.new_store
    → ((text : List ℕ) → IfOk line (λ made. made ≡ text) → HasPrinted result text o.sink o.new_sink) → OnErr line ((result ≡ Err stop.Memory) × (o.new_sink ≡ o.sink)) → HasAnswered result command old new o
line_answered (Ok text) result command old new o has printed short = answered result command old new has.0 o has.1 (printed (reply_line has.0) has.2)
line_answered (Err fault) result command old new o has printed short = subst (λ (r : Result (Unit {0}) ReplyStop). HasAnswered r command old new o) (sym short.0) (has, short.1)

-- what is reported for an answer, where the files are
abbrev pub OneReported : Command → Reply → Loaded → Loaded → StoreSeen → StoreSeen → Option FileMap → Type 0
OneReported command reply old new before now held = IfRevealedOr held
    ((reads : ℕ) × MayRead command reply reads × (now.faults ≡ saturating_sum (unread (reply ∷ [])) before.faults) × (now.asked ≡ saturating_sum reads before.asked))
    (λ files. (state : Machine) → Agrees files old state → (others : ℕ) × (reads : ℕ) × (next : Machine) × IsAnswered files state command reply others next
    × IsReadFor files state command others reads × Agrees files new next × (now.faults ≡ saturating_sum others before.faults) × (now.asked ≡ saturating_sum reads before.asked))

-- ---- commands that read no file

-- the command may read a file
abbrev pub is_reader : Command → Bool
is_reader (Load path) = true
is_reader (LoadSegment user segment) = true
is_reader (Jsl user segment at) = true
is_reader (Restart user) = true
is_reader _ = false

idle_may : (command : Command) (reply : Reply) → is_reader command ≡ false → MayRead command reply 0
idle_may (Load path) reply none = absurd cc
idle_may (LoadSegment user segment) reply none = absurd cc
idle_may (Jsl user segment at) reply none = absurd cc
idle_may (Restart user) reply none = absurd cc
idle_may _ reply none = refl

pub idle_reads : (files : FileMap) (state : Machine) (command : Command) → is_reader command ≡ false → IsReadFor files state command 0 0
idle_reads files state (Load path) none = absurd cc
idle_reads files state (LoadSegment user segment) none = absurd cc
idle_reads files state (Jsl user segment at) none = absurd cc
idle_reads files state (Restart user) none = absurd cc
idle_reads files state _ none = ([], refl, inl (refl, [], 0, (refl, refl), refl))

-- a command that reads no file is answered as by the machine
pub idle_answer : (store : StoreSeen) (command : Command) (old new : Loaded) (reply : Reply) → is_unread reply ≡ false → is_reader command ≡ false → IsUnanswered command store store
    → ((files : FileMap) (state : Machine) → Agrees files old state → Met RoomRule files state command reply new) → IsAnswer command old reply new store store
idle_answer store command old new reply other none idle meets = record { reported = go store.held; store = refl; unanswered = idle }
  where
    go : (h : Option FileMap) → OneReported command reply old new store store h
    go None = (0, idle_may command reply none, rw other refl, refl)
    go (Some files) = λ state agrees. let m = meets files state agrees in (0, 0, m.0, inl (m.1, refl), idle_reads files state command none, m.2, refl, refl)

-- and so is its line
pub idle_line : (line : Result (List ℕ) LineFault) (store : StoreSeen) (command : Command) (old new : Loaded) (reply : Reply) → IfOk line (λ text. text ≡ reply_line reply) → is_unread reply ≡ false
    → is_reader command ≡ false → IsUnanswered command store store → ((files : FileMap) (state : Machine) → Agrees files old state → Met RoomRule files state command reply new)
    → HasLine line command old new store store
idle_line (Ok text) store command old new reply is other none idle meets = (reply, idle_answer store command old new reply other none idle meets, is)
idle_line (Err short) store command old new reply is other none idle meets = idle

-- of a reply, or a refusal
pub line_text : (line : Result (List ℕ) LineFault) (reply : Reply) → IsLineOf line reply → IfOk line (λ text. text ≡ reply_line reply)
line_text (Ok text) reply is = is.1
line_text (Err short) reply is = tt

pub refusal_text : (line : Result (List ℕ) LineFault) (fault : LoaderFault) → IfOk line (λ text. (fault ≢ faults.Memory) × (text ≡ reply_line (commands.Refused fault))) → IfOk line (λ text. text ≡ reply_line (commands.Refused fault))
refusal_text (Ok text) fault is = is.1
refusal_text (Err short) fault is = tt

pub done_text : (line : Result (List ℕ) LineFault) (fault : LoaderFault) → IfOk line (λ text. (fault ≢ faults.Memory) × (text ≡ reply_line (commands.Refused fault))) → IsLineOf line (commands.Refused fault)
done_text (Ok text) fault is = ((λ same. is.0 (fault_same fault same)), is.1)
  where
    fault_same : (f : LoaderFault) → commands.Refused f ≡ commands.Refused faults.Memory → f ≡ faults.Memory
    fault_same f e = cc
done_text (Err short) fault is = tt

pub okay_text : (line : Result (List ℕ) LineFault) → IfOk line (λ text. text ≡ reply_line commands.Okay) → IsLineOf line commands.Okay
okay_text (Ok text) is = ((λ same. absurd cc), is)
okay_text (Err short) is = tt

-- a block that was just placed is there
pub alloc_there : (old new : Memory) (want : Want) (locked : Bool) (level : ℕ) (movable : Bool) (h : Handle) → IsPlaced RoomRule old want 0 locked level movable h new → IsSomeAnd (get new.slots h) (λ block. IsSome block.at)
alloc_there old new want locked level movable h is = rw (puts_here old.banks old.slots new.slots want 0 locked level movable h is.puts) refl

module _ (files : FileMap) (state : Machine) (new : Loaded) (want : Want) (locked : Bool) (level : ℕ) (movable : Bool) where
  -- and its address is that of the reply
  pub alloc_at : (h : Handle) (address : ℕ) → IsSomeAnd (get new.memory.slots h) (λ block. block.at ≡ Some address)
      → ((other : ℕ) × IsSomeAnd (get new.memory.slots h) (λ block. block.at ≡ Some other) × MetAlloc RoomRule files state want locked level movable (commands.Placed h other) new)
      → MetAlloc RoomRule files state want locked level movable (commands.Placed h address) new
  alloc_at h address is met = subst (λ (n : ℕ). MetAlloc RoomRule files state want locked level movable (commands.Placed h n) new) (same (get new.memory.slots h) met.1 is) met.2
    where
      same : (o : Option Block) → IsSomeAnd o (λ block. block.at ≡ Some met.0) → IsSomeAnd o (λ block. block.at ≡ Some address) → met.0 ≡ address
      same None p q = absurd p
      same (Some block) p q = same_Some met.0 address (sym p ∙ q)

  -- the command asks for just this
  pub alloc_asked : (size attributes address : ℕ) (reply : Reply) → want ≡ alloc_want size attributes address → locked ≡ is_locked attributes → level ≡ level_in attributes
      → movable ≡ is_movable attributes → MetAlloc RoomRule files state want locked level movable reply new → Met RoomRule files state (commands.Alloc size attributes address) reply new
  alloc_asked size attributes address reply e e' e2 e3 met =
      subst (λ (w : Want). MetAlloc RoomRule files state w (is_locked attributes) (level_in attributes) (is_movable attributes) reply new) e
      (subst (λ (b : Bool). MetAlloc RoomRule files state want b (level_in attributes) (is_movable attributes) reply new) e'
      (subst (λ (n : ℕ). MetAlloc RoomRule files state want locked n (is_movable attributes) reply new) e2
      (subst (λ (b : Bool). MetAlloc RoomRule files state want locked level b reply new) e3 met)))
