use Rattle.std.proofs.Common.{◌≡◌, ℕ, Option, Some, None}
use Rattle.std.specs.Prelude.{MatchOption}
use Rattle.omf_io.specs.Files.{FileMap}
use Rattle.loader_machine.specs.Rule.{RoomRule}
use Rattle.loader_machine.specs.State.{Machine}
use Rattle.loader_machine.specs.Commands as commands
use Rattle.loader_agrees.specs.Agrees.{Loaded, Agrees, IsSound, Met}
use Rattle.loader_agrees.specs.Acts.{LiesIn}
use Rattle.loader_agrees.specs.laws.Reads.{lies_met, nowhere_met}
use Rattle.sys_loader.specs.declared.answers.Entered.{Entered}
use Rattle.sys_loader.specs.Replies.{where_reply}
use Rattle.sys_loader.proofs.Naming.{names_place}
use Rattle.sys_loader.proofs.loader.Loader.locate.Goals as goal

meets : (loader : Loaded) (address : ℕ) (result : Option Entered) → IsSound loader.memory loader.users
    → MatchOption result ((id number offset : ℕ) → ¬ LiesIn loader address id number offset)
    (λ (entered : Entered). LiesIn loader address entered.user entered.segment entered.offset × (entered.address ≡ address))
    → (held : FileMap) (state : Machine) → Agrees held loader state → Met RoomRule held state (commands.Where address) (where_reply result) loader
meets loader address None sound none held state agrees = nowhere_met held loader state agrees RoomRule sound address none
meets loader address (Some entered) sound some held state agrees = lies_met held loader state agrees RoomRule address entered.user entered.segment entered.offset some.0

pub returns-clause-meets : goal.returns-clause-meets
returns-clause-meets c = meets c.args.self.now c.args.address c.find_address.result c.recall_invariant.ensures c.find_address.ensures

reported : (result : Option Entered) → (loader : Loaded) → (address : ℕ) → MatchOption result ((id number offset : ℕ) → ¬ LiesIn loader address id number offset)
    (λ (entered : Entered). LiesIn loader address entered.user entered.segment entered.offset × (entered.address ≡ address))
    → MatchOption result (Unit {0}) (λ (entered : Entered). entered.address ≡ address)
reported None loader address none = tt
reported (Some entered) loader address some = some.1

pub returns-clause-names : goal.returns-clause-names
returns-clause-names c = λ held state agrees id number at target offset has read.
    names_place held c.args.self.now state agrees c.recall_invariant.ensures c.recall_blocks_apart.ensures.below id number at target offset has c.recall_blocks_apart.ensures.apart c.args.address c.find_address.result
    (reported c.find_address.result c.args.self.now c.args.address c.find_address.ensures)
    (meets c.args.self.now c.args.address c.find_address.result c.recall_invariant.ensures c.find_address.ensures held state agrees) read
