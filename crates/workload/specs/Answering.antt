-- A run of the workload on its way. No public clause cites this module.
use Rattle.std.specs.Prelude.{◌≡◌, ℕ, ◌+◌, List, ◌∷◌, map, count_by}
use Rattle.omf_io.specs.Files.{FileMap}
use Rattle.loader_machine.specs.State.{Machine, empty_of}
use Rattle.loader_machine.specs.Commands.{Command, Load, Reply, Refused}
use Rattle.loader_machine.specs.Commands as commands
use Rattle.loader_machine.specs.Needs.{IsReadFor}
use Rattle.loader_machine.specs.Transcript.{IsAnswered, AreAnswered}
use Rattle.loader_agrees.specs.Agrees.{Loaded, Agrees}
use Rattle.workload.specs.declared.rounds.RoundOutcome.{RoundOutcome}
use Rattle.workload.specs.declared.rounds.RoundOutcome.TheVariants.{Entered, Done, Refused as Fails}
use Rattle.workload.specs.declared.rounds.Counts.{Counts}
use Rattle.workload_meaning.specs.Draws.{draws}
use Rattle.workload.specs.Rounds.{banks, program, round_of, is_entered, is_refused}

-- the outcome that a reply means
abbrev pub outcome_of : Reply → RoundOutcome
outcome_of (commands.Entered user segment offset address) = Entered
outcome_of (commands.Refused fault) = Fails
outcome_of _ = Done

-- the counts with an outcome
abbrev pub counted : RoundOutcome → Counts → Counts
counted Entered counts = record counts { entered = counts.entered + 1 }
counted Done counts = counts
counted Fails counts = record counts { refused = counts.refused + 1 }

-- in a state a command has a reply of this outcome, and the loader agrees with the state to which it leads
pub record IsStep (held : FileMap) (state : Machine) (command : Command) (outcome : RoundOutcome) (loader : Loaded) : Type 0 where
  pub reply : Reply
  pub reads : ℕ
  pub next : Machine
  pub answered : IsAnswered held state command reply 0 next
  pub read : IsReadFor held state command 0 reads
  pub agrees : Agrees held loader next
  pub comes : outcome ≡ outcome_of reply

-- so it is in every state with which the loader agreed
abbrev pub HasDone : FileMap → Command → RoundOutcome → Loaded → Loaded → Type 0
HasDone held command outcome old new = (state : Machine) → Agrees held old state → IsStep held state command outcome new

-- these commands were answered, and the loader agrees with the state to which the replies lead; their outcomes were counted
pub record AreDone (held : FileMap) (commands : List Command) (counts : Counts) (loader : Loaded) : Type 0 where
  pub replies : List Reply
  pub reads : ℕ
  pub last : Machine
  pub answered : AreAnswered held (empty_of banks) commands replies 0 reads last
  pub agrees : Agrees held loader last
  pub entered' : counts.entered ≡ count_by is_entered replies
  pub refused' : counts.refused ≡ count_by is_refused replies

-- the program was loaded, and `count` rounds were made, by the draws after a number
abbrev pub front_of : ℕ → ℕ → ℕ → List Command
front_of n x count = Load program ∷ map (round_of n) (draws count x)
