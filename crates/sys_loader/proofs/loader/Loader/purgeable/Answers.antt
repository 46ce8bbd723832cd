use Rattle.std.proofs.Common.{sym, ap, ◌∙◌}
use Rattle.std.specs.Prelude.{option_map}
use Rattle.loader_machine.specs.Refusals.{purge_refusal}
use Rattle.loader_agrees.specs.Agrees.{seen_in, seen_by}
use Rattle.loader_users.specs.View.{kept}
use Rattle.sys_loader.proofs.Purging.{of_script, of_made, of_none}
use Rattle.sys_loader.proofs.loader.Loader.purgeable.Goals as goal

pub returns-then-user-eq-SCRIPT-clause-ok : goal.returns-then-user-eq-SCRIPT-clause-ok
returns-then-user-eq-SCRIPT-clause-ok c =
    ap (purge_refusal (seen_by c.args.self.now c.args.user)) c.if-user-eq-SCRIPT.true ∙ of_script (seen_by c.args.self.now c.args.user)

pub returns-in-Some-clause-ok : goal.returns-in-Some-clause-ok
returns-in-Some-clause-ok c =
    of_made (seen_by c.args.self.now c.args.user) (seen_in (kept c.in-Some.field-0.now)) c.args.user
    (ap (option_map seen_in) (sym c.user.ensures ∙ ap (option_map (λ user. kept user.now)) c.in-Some.is))

pub returns-in-None-clause-err : goal.returns-in-None-clause-err
returns-in-None-clause-err c =
    of_none (seen_by c.args.self.now c.args.user) c.args.user (ap (option_map seen_in) (sym c.user.ensures ∙ ap (option_map (λ user. kept user.now)) c.in-None.is))
    c.if-user-eq-SCRIPT.false
