use Rattle.std.proofs.Common.{◌≢◌, sym, ap, ◌∙◌, arith}
use Rattle.loader_machine.specs.Refusals.{free_refusal, change_refusal}
use Rattle.loader_agrees.specs.Agrees.{Loaded}
use Rattle.loader_agrees.specs.laws.Checking.{stale}
use Rattle.sys_loader.proofs.Script.{stale_is, not_scripts}
use Rattle.sys_loader.proofs.loader.Loader.scripts.Goals as goal

pub returns-else-state-eq-SCRIPT-clause-free : goal.returns-else-state-eq-SCRIPT-clause-free
returns-else-state-eq-SCRIPT-clause-free c =
    let other : c.in-Ok.state.user ≢ 0 = λ e. grind (arith, e, c.if-state-eq-SCRIPT.false) in
    ap (λ (l : Loaded). free_refusal l.memory.slots c.args.h) (sym c.self.view_is) ∙ (not_scripts c.self.inside.banks.slots c.args.h c.in-Ok.state c.in-Ok.ensures.state other).0

pub returns-else-state-eq-SCRIPT-clause-change : goal.returns-else-state-eq-SCRIPT-clause-change
returns-else-state-eq-SCRIPT-clause-change c =
    let other : c.in-Ok.state.user ≢ 0 = λ e. grind (arith, e, c.if-state-eq-SCRIPT.false) in
    ap (λ (l : Loaded). change_refusal l.memory.slots c.args.h) (sym c.self.view_is) ∙ (not_scripts c.self.inside.banks.slots c.args.h c.in-Ok.state c.in-Ok.ensures.state other).1

pub returns-in-Err-Stale-clause-free : goal.returns-in-Err-Stale-clause-free
returns-in-Err-Stale-clause-free c =
    ap (λ (l : Loaded). free_refusal l.memory.slots c.args.h) (sym c.self.view_is) ∙ (stale c.self.inside.banks.slots c.args.h (stale_is c.self.inside.banks.slots c.args.h c.in-Err-Stale.field-0 c.in-Err-Stale.ensures.refused)).0

pub returns-in-Err-Stale-clause-change : goal.returns-in-Err-Stale-clause-change
returns-in-Err-Stale-clause-change c =
    ap (λ (l : Loaded). change_refusal l.memory.slots c.args.h) (sym c.self.view_is) ∙ (stale c.self.inside.banks.slots c.args.h (stale_is c.self.inside.banks.slots c.args.h c.in-Err-Stale.field-0 c.in-Err-Stale.ensures.refused)).1
