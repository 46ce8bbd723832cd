use Rattle.std.proofs.Common.{true}
use Rattle.std.proofs.lemmas.Result.{err_from_is_err_and}
use Rattle.loader_machine.specs.State.{is_attached}
use Rattle.loader_agrees.specs.Agrees.{kept_outlines, seen_in, seen_by}
use Rattle.loader_users.specs.View.{kept}
use Rattle.sys_loader.proofs.Resting.{alone_stops, keep_stops, keep_passes}
use Rattle.sys_loader.proofs.loader.Loader.keepable.Goals as goal

pub returns-in_err-check_unattached-clause-err : goal.returns-in_err-check_unattached-clause-err
returns-in_err-check_unattached-clause-err c =
    let p = err_from_is_err_and c.from_residual.result c.from_residual.ensures.1 in
    rw (p.1, p.2) (alone_stops (is_attached (kept_outlines c.args.self.now.users) c.args.user) (seen_by c.args.self.now c.args.user) true c.in_err-check_unattached.field-0.0 c.in_err-check_unattached.ensures.err.0 c.in_err-check_unattached.ensures.err.1)

pub returns-clause-ok : goal.returns-clause-ok
returns-clause-ok c = (
  kept c.in_ok-running.field-0.now,
  c.in_ok-running.ensures.ok.0,
  c.in_ok-running.ensures.ok.1,
  keep_passes (is_attached (kept_outlines c.args.self.now.users) c.args.user) (seen_by c.args.self.now c.args.user) (seen_in (kept c.in_ok-running.field-0.now)) c.in_ok-check_unattached.ensures.ok c.in_ok-running.ensures.ok.2,
)

pub returns-in_err-running-clause-err : goal.returns-in_err-running-clause-err
returns-in_err-running-clause-err c =
    let p = err_from_is_err_and c.from_residual-in_err-running.result c.from_residual-in_err-running.ensures.1 in
    rw (p.1, p.2) (keep_stops (is_attached (kept_outlines c.args.self.now.users) c.args.user) (seen_by c.args.self.now c.args.user) c.in_err-running.field-0.0 c.in_ok-check_unattached.ensures.ok c.in_err-running.ensures.err)
