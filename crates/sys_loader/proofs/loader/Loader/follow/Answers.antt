use Rattle.std.proofs.Common.{inr, refl, sym, subst}
use Rattle.std.proofs.lemmas.Result.{err_from_is_err_and}
use Rattle.loader_agrees.specs.Agrees.{Loaded}
use Rattle.sys_loader.specs.Activating.{DidActivate}
use Rattle.sys_loader.specs.declared.jsl.Reached.TheVariants.{Entry}
use Rattle.sys_loader.specs.Following.{IsRefused, IsPlace, Stops, Leads, Calls, HasReached, HasAsked}
use Rattle.sys_loader.proofs.Reaching.{has_asked}
use Rattle.sys_loader.proofs.loader.Loader.follow.Goals as goal

pub returns-in_err-reached-clause-asked : goal.returns-in_err-reached-clause-asked
returns-in_err-reached-clause-asked g c = inr (IsRefused c.in_err-reached.field-0.0 c.in_err-reached.ensures.refused, refl)

pub returns-in_err-reached-clause-did : goal.returns-in_err-reached-clause-did
returns-in_err-reached-clause-did g c =
    let p = err_from_is_err_and c.from_residual.result c.from_residual.ensures.1 in
    rw (p.1, p.2) (Stops c.in_err-reached.field-0.0 c.in_err-reached.ensures.refused refl c.reach.ensures.same refl)

pub returns-in-Place-clause-asked : goal.returns-in-Place-clause-asked
returns-in-Place-clause-asked g c =
    inr (IsPlace c.in-Place.place (subst (HasReached c.args.self.now c.args.user c.args.segment c.args.at) c.in-Place.is c.in_ok-reached.ensures.reached), refl)

pub returns-in-Place-clause-did : goal.returns-in-Place-clause-did
returns-in-Place-clause-did g c =
    Leads c.in-Place.place (subst (HasReached c.args.self.now c.args.user c.args.segment c.args.at) c.in-Place.is c.in_ok-reached.ensures.reached) refl c.reach.ensures.same refl

pub returns-in-Entry-clause-asked : goal.returns-in-Entry-clause-asked
returns-in-Entry-clause-asked g c =
    let asked = (g.F.Files.seen c.args.files.now).asked in
    let asked' = (g.F.Files.seen c.enter.new.files).asked in
    let reached = subst (HasReached c.args.self.now c.args.user c.args.segment c.args.at) c.in-Entry.is c.in_ok-reached.ensures.reached in
    let there = subst (λ (l : Loaded). HasReached l c.args.user c.args.segment c.args.at (Entry c.in-Entry.other c.in-Entry.number c.in-Entry.offset)) (sym c.reach.ensures.same) reached in
    subst (λ (l : Loaded). HasAsked l c.args.user c.args.segment c.args.at asked asked') c.reach.ensures.same
    (has_asked c.reach.new.self c.args.user c.args.segment c.args.at c.in-Entry.other c.in-Entry.number c.in-Entry.offset there
    asked asked' c.enter.ensures.asked c.enter.ensures.unasked)

pub returns-in-Entry-clause-did : goal.returns-in-Entry-clause-did
returns-in-Entry-clause-did g c =
    let made = c.enter.ensures.did in
    let activated = subst (λ (l : Loaded). DidActivate (g.F.Files.seen c.args.files.now).held l c.in-Entry.other c.in-Entry.number made.0 c.enter.new.self
    (g.F.Files.seen c.args.files.now).faults (g.F.Files.seen c.enter.new.files).faults) c.reach.ensures.same made.1 in
    Calls c.in-Entry.other c.in-Entry.number c.in-Entry.offset (subst (HasReached c.args.self.now c.args.user c.args.segment c.args.at) c.in-Entry.is c.in_ok-reached.ensures.reached) made.0 activated made.2
