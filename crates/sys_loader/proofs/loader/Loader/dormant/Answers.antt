use Rattle.std.proofs.Common.{◌≡◌, Some, sym, ap, ◌∙◌}
use Rattle.std.proofs.lemmas.Result.{err_from_is_err_and}
use Rattle.std.specs.Prelude.{option_map}
use Rattle.loader_machine.specs.State.{user_of, is_attached}
use Rattle.loader_agrees.specs.Agrees.{kept_outlines, seen_in, seen_by}
use Rattle.loader_users.specs.View.{kept}
use Rattle.sys_loader.proofs.Reloading.{restart_attached, restart_none, restart_runs, restart_rests}
use Rattle.sys_loader.proofs.loader.Loader.dormant.Goals as goal

pub returns-in_err-check_unattached-clause-err : goal.returns-in_err-check_unattached-clause-err
returns-in_err-check_unattached-clause-err c =
    let p = err_from_is_err_and c.from_residual.result c.from_residual.ensures.1 in
    rw (p.1, p.2) (restart_attached (is_attached (kept_outlines c.args.self.now.users) c.args.user) (seen_by c.args.self.now c.args.user) c.in_err-check_unattached.field-0.0 c.in_err-check_unattached.ensures.err.0 c.in_err-check_unattached.ensures.err.1)

pub returns-in-Running-clause-err : goal.returns-in-Running-clause-err
returns-in-Running-clause-err c =
    let made : user_of c.args.self.now.users c.args.user ≡ Some (kept c.in-Some.found.now) = sym c.user.ensures ∙ ap (option_map (λ user. kept user.now)) c.in-Some.is in
    restart_runs (is_attached (kept_outlines c.args.self.now.users) c.args.user) (seen_by c.args.self.now c.args.user) (seen_in (kept c.in-Some.found.now)) c.in_ok-check_unattached.ensures.ok (ap (option_map seen_in) made) c.in-Running.is

pub returns-in-Dormant-clause-ok : goal.returns-in-Dormant-clause-ok
returns-in-Dormant-clause-ok c =
    let made : user_of c.args.self.now.users c.args.user ≡ Some (kept c.in-Some.found.now) = sym c.user.ensures ∙ ap (option_map (λ user. kept user.now)) c.in-Some.is in
    record {
      passes = restart_rests (is_attached (kept_outlines c.args.self.now.users) c.args.user) (seen_by c.args.self.now c.args.user) (seen_in (kept c.in-Some.found.now)) c.in_ok-check_unattached.ensures.ok (ap (option_map seen_in) made) c.in-Dormant.is;
      made = made;
      rests = c.in-Dormant.is;
    }

pub returns-in-None-clause-err : goal.returns-in-None-clause-err
returns-in-None-clause-err c =
    restart_none (is_attached (kept_outlines c.args.self.now.users) c.args.user) (seen_by c.args.self.now c.args.user) (ap (option_map seen_in) (sym c.user.ensures ∙ ap (option_map (λ user. kept user.now)) c.in-None.is))
