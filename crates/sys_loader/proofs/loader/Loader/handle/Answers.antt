use Rattle.std.proofs.Common.{sym, ap, subst, ◌∙◌}
use Rattle.iigs_meaning.specs.declared.wants.BlockState.{BlockState}
use Rattle.iigs_meaning.specs.Slots.{get}
use Rattle.iigs_meaning.specs.Fits.{Slots}
use Rattle.loader_machine.specs.Rule.{RoomRule}
use Rattle.loader_machine.specs.Refusals.{state_refusal}
use Rattle.loader_agrees.specs.Agrees.{Loaded}
use Rattle.loader_machine.specs.declared.faults.LoaderFault.TheVariants.{Stale}
use Rattle.loader_machine.specs.Commands.{StateOf, BlockIs}
use Rattle.loader_agrees.specs.Agrees.{Met}
use Rattle.loader_agrees.specs.laws.Checking.{stale}
use Rattle.loader_agrees.specs.laws.ScriptBlocks.{state_met, decides_refused}
use Rattle.sys_loader.proofs.Script.{stale_is, of_state}
use Rattle.sys_loader.proofs.loader.Loader.handle.Goals as goal

pub returns-in-Ok-clause-meets : goal.returns-in-Ok-clause-meets
returns-in-Ok-clause-meets c = λ held state agrees.
    let found = of_state c.self.inside.banks.slots c.args.h c.in-Ok.state c.in-Ok.ensures.state in
    let live = ap (λ (l : Loaded). get l.memory.slots c.args.h) (sym c.self.view_is) ∙ found.1 in
    subst (λ (s : BlockState). Met RoomRule held state (StateOf c.args.h) (BlockIs s) c.args.self.now) (sym found.2) (state_met held c.args.self.now state agrees c.args.h found.0 live)

pub returns-in-Err-Stale-clause-meets : goal.returns-in-Err-Stale-clause-meets
returns-in-Err-Stale-clause-meets c = λ held state agrees.
    let none = (stale c.args.self.now.memory.slots c.args.h (ap (λ (l : Loaded). get l.memory.slots c.args.h) (sym c.self.view_is) ∙ (stale_is c.self.inside.banks.slots c.args.h c.in-Err-Stale.field-0 c.in-Err-Stale.ensures.refused))).2 in
    (state, decides_refused held c.args.self.now state agrees (λ (t : Slots). state_refusal t c.args.h) Stale _ none, agrees)

pub returns-in-Err-Stale-clause-refused : goal.returns-in-Err-Stale-clause-refused
returns-in-Err-Stale-clause-refused c = (stale c.args.self.now.memory.slots c.args.h (ap (λ (l : Loaded). get l.memory.slots c.args.h) (sym c.self.view_is) ∙ (stale_is c.self.inside.banks.slots c.args.h c.in-Err-Stale.field-0 c.in-Err-Stale.ensures.refused))).2
