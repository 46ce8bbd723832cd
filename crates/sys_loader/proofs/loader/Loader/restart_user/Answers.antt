use Rattle.std.proofs.Common.{◌≡◌, true, refl, sym, ap, ◌∙◌}
use Rattle.loader_machine.specs.Needs.{some_read_again}
use Rattle.loader_agrees.specs.Agrees.{Loaded}
use Rattle.loader_users.specs.View.{kept}
use Rattle.sys_loader.specs.Restarting.{is_whole, InPlace}
use Rattle.sys_loader.proofs.Rereading.{not_needed}
use Rattle.sys_loader.proofs.loader.Loader.restart_user.Goals as goal

pub returns-else-has_to_read-clause-did : goal.returns-else-has_to_read-clause-did
returns-else-has_to_read-clause-did g c =
    let k = kept c.in_ok-found.found.now in
    let can = c.in_ok-found.ensures.ok in
    let need = not_needed c.are_there-in_place.result (some_read_again k.heads) (sym c.has_to_read.ensures ∙ c.if-has_to_read.false) in
    let whole : is_whole c.args.self.now k ≡ true = ap (λ (l : Loaded). is_whole l k) (sym c.self.view_is) ∙ sym c.are_there-in_place.ensures ∙ need.0 in
    (k, can, InPlace whole need.1 (c.resume.ensures k can.made), refl)
