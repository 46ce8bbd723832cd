use Rattle.std.proofs.Common.{Option, refl, sym, ap, ◌∙◌}
use Rattle.std.proofs.lemmas.Result.{err_from_is_err_and}
use Rattle.std.specs.Prelude.{option_map}
use Rattle.loader_machine.specs.Refusals.{info_refusal}
use Rattle.loader_machine.specs.Presences.{presence}
use Rattle.loader_agrees.specs.Agrees.{LoadedUser, Loaded, seen_in}
use Rattle.loader_users.specs.View.{kept}
use Rattle.loader_agrees.specs.laws.Checking.{info_no_user, info_stops, info_passes}
use Rattle.sys_loader.proofs.loader.Loader.report_segment.Goals as goal

pub returns-in_default-clause-refused : goal.returns-in_default-clause-refused
returns-in_default-clause-refused c = ap (λ (o : Option LoadedUser). info_refusal (option_map seen_in o) c.args.segment) (sym c.in_default.ensures) ∙ info_no_user c.args.segment

pub returns-in_err-found-clause-refused : goal.returns-in_err-found-clause-refused
returns-in_err-found-clause-refused c =
    let p = err_from_is_err_and c.from_residual.result c.from_residual.ensures.1 in
    rw (p.1, p.2) (ap (λ (o : Option LoadedUser). info_refusal (option_map seen_in o) c.args.segment) (sym c.in-Some.ensures)
    ∙ info_stops (seen_in (kept c.in-Some.kept.now)) c.args.segment c.in_err-found.field-0.0 c.in_err-found.ensures.err)

pub returns-clause-reported : goal.returns-clause-reported
returns-clause-reported c = record {
  passes = ap (λ (o : Option LoadedUser). info_refusal (option_map seen_in o) c.args.segment) (sym c.in-Some.ensures)
      ∙ info_passes (seen_in (kept c.in-Some.kept.now)) c.args.segment c.in_ok-found.found.head c.in_ok-found.ensures.ok.2;
  kept = kept c.in-Some.kept.now;
  made = sym c.in-Some.ensures;
  head = c.in_ok-found.found.head;
  head' = c.in_ok-found.ensures.ok.0;
  presence_is = c.presence.ensures ∙ ap (λ (l : Loaded). presence l.memory.slots c.in_ok-found.found.handle) c.self.view_is
      ∙ ap (presence c.args.self.now.memory.slots) (sym c.in_ok-found.ensures.ok.1);
  length_is = refl;
  kind_is = refl;
}
