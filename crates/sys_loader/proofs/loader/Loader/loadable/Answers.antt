use Rattle.std.proofs.Common.{sym, ◌∙◌, arith}
use Rattle.std.proofs.lemmas.Result.{err_from_is_err_and}
use Rattle.loader_agrees.specs.Agrees.{seen_in, seen_by}
use Rattle.loader_users.specs.View.{kept}
use Rattle.sys_loader.proofs.Loadable.{stops_running, stops_segment, stops_dynamic, passes}
use Rattle.sys_loader.proofs.loader.Loader.loadable.Goals as goal

pub returns-in_err-user-clause-refused : goal.returns-in_err-user-clause-refused
returns-in_err-user-clause-refused c =
    let p = err_from_is_err_and c.from_residual.result c.from_residual.ensures.1 in
    rw (p.1, p.2) (stops_running c.args.number (seen_by c.args.self.now c.args.id) c.in_err-user.field-0.0 c.in_err-user.ensures.err)

pub returns-in_err-segment-clause-refused : goal.returns-in_err-segment-clause-refused
returns-in_err-segment-clause-refused c =
    let p = err_from_is_err_and c.from_residual-in_err-segment.result c.from_residual-in_err-segment.ensures.1 in
    rw (p.1, p.2) (stops_segment c.args.number (seen_by c.args.self.now c.args.id) (seen_in (kept c.in_ok-user.user.now)) c.in_ok-user.ensures.ok.2 c.in_err-segment.field-0.0 c.in_err-segment.ensures.err)

pub returns-then-not-is_dynamic-clause-refused : goal.returns-then-not-is_dynamic-clause-refused
returns-then-not-is_dynamic-clause-refused c =
    stops_dynamic c.args.number (seen_by c.args.self.now c.args.id) (seen_in (kept c.in_ok-user.user.now)) c.in_ok-user.ensures.ok.2
    c.in_ok-segment.segment.head c.in_ok-segment.ensures.ok.2 (sym c.is_dynamic.ensures ∙ c.if-not-is_dynamic.true)

pub returns-clause-can : goal.returns-clause-can
returns-clause-can c =
    let dynamic = sym c.is_dynamic.ensures ∙ c.if-not-is_dynamic.false in
    record {
      passes = passes c.args.number (seen_by c.args.self.now c.args.id) (seen_in (kept c.in_ok-user.user.now)) c.in_ok-user.ensures.ok.2 c.in_ok-segment.segment.head c.in_ok-segment.ensures.ok.2 dynamic;
      kept = kept c.in_ok-user.user.now;
      made = c.in_ok-user.ensures.ok.0;
      runs = c.in_ok-user.ensures.ok.1;
      head' = c.in_ok-segment.ensures.ok.0;
      handle' = c.in_ok-segment.ensures.ok.1;
      dynamic = dynamic;
      fits = omega arith;
    }
