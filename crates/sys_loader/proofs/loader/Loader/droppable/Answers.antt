use Rattle.std.proofs.Common.{◌≡◌, false, Some, sym, ap, refl, ◌∙◌}
use Rattle.std.proofs.lemmas.Result.{err_from_is_err_and}
use Rattle.std.specs.Prelude.{option_map}
use Rattle.loader_machine.specs.State.{user_of, is_attached}
use Rattle.loader_agrees.specs.Agrees.{kept_outlines, seen_in, seen_by}
use Rattle.loader_users.specs.View.{kept}
use Rattle.sys_loader.proofs.Resting.{alone_stops, drop_none, drop_passes}
use Rattle.sys_loader.proofs.loader.Loader.droppable.Goals as goal

pub returns-in_err-check_unattached-clause-err : goal.returns-in_err-check_unattached-clause-err
returns-in_err-check_unattached-clause-err c =
    let p = err_from_is_err_and c.from_residual.result c.from_residual.ensures.1 in
    rw (p.1, p.2) (alone_stops (is_attached (kept_outlines c.args.self.now.users) c.args.user) (seen_by c.args.self.now c.args.user) false c.in_err-check_unattached.field-0.0 c.in_err-check_unattached.ensures.err.0 c.in_err-check_unattached.ensures.err.1)

pub returns-in-Some-clause-ok : goal.returns-in-Some-clause-ok
returns-in-Some-clause-ok c =
    let made : user_of c.args.self.now.users c.args.user ≡ Some (kept c.in-Some.field-0.now) = sym c.user.ensures ∙ ap (option_map (λ user. kept user.now)) c.in-Some.is in
    (rw made refl, drop_passes (is_attached (kept_outlines c.args.self.now.users) c.args.user) (seen_by c.args.self.now c.args.user) (seen_in (kept c.in-Some.field-0.now)) c.in_ok-check_unattached.ensures.ok (ap (option_map seen_in) made))

pub returns-in-None-clause-err : goal.returns-in-None-clause-err
returns-in-None-clause-err c =
    drop_none (is_attached (kept_outlines c.args.self.now.users) c.args.user) (seen_by c.args.self.now c.args.user) (ap (option_map seen_in) (sym c.user.ensures ∙ ap (option_map (λ user. kept user.now)) c.in-None.is))
