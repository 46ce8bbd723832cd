use Rattle.std.proofs.Common.{◌≡◌, true, Option, Some, sym, ap, ◌∙◌}
use Rattle.std.proofs.lemmas.Result.{err_from_is_err_and, IfOk-weaker, IfErr-weaker}
use Rattle.iigs_meaning.specs.declared.handles.Handle.{Handle}
use Rattle.iigs_meaning.specs.Fits.{Slots}
use Rattle.loader_machine.specs.Presences.{presence, is_active}
use Rattle.loader_agrees.specs.Agrees.{Loaded, seen_in, seen_by}
use Rattle.loader_users.specs.View.{kept}
use Rattle.sys_loader.proofs.Unloading.{stops_running, stops_segment, stops_dynamic, stops_active, passes}
use Rattle.sys_loader.proofs.loader.Loader.unloadable.Goals as goal

pub returns-in_err-user-clause-refused : goal.returns-in_err-user-clause-refused
returns-in_err-user-clause-refused c =
    let p = err_from_is_err_and c.from_residual.result c.from_residual.ensures.1 in
    rw (p.1, p.2) (stops_running c.args.self.now.memory.slots c.args.number (seen_by c.args.self.now c.args.id) c.in_err-user.field-0.0 c.in_err-user.ensures.err)

pub returns-in_err-segment-clause-refused : goal.returns-in_err-segment-clause-refused
returns-in_err-segment-clause-refused c =
    let p = err_from_is_err_and c.from_residual-in_err-segment.result c.from_residual-in_err-segment.ensures.1 in
    rw (p.1, p.2) (stops_segment c.args.self.now.memory.slots c.args.number (seen_by c.args.self.now c.args.id) (seen_in (kept c.in_ok-user.user.now)) c.in_ok-user.ensures.ok.2
    c.in_err-segment.field-0.0 c.in_err-segment.ensures.err)

pub returns-then-not-is_dynamic-clause-refused : goal.returns-then-not-is_dynamic-clause-refused
returns-then-not-is_dynamic-clause-refused c =
    stops_dynamic c.args.self.now.memory.slots c.args.number (seen_by c.args.self.now c.args.id) (seen_in (kept c.in_ok-user.user.now)) c.in_ok-user.ensures.ok.2
    c.in_ok-segment.segment.head c.in_ok-segment.segment.handle c.in_ok-segment.ensures.ok.2 c.in_ok-segment.ensures.ok.1
    (sym c.is_dynamic.ensures ∙ c.if-not-is_dynamic.true)

pub returns-clause-refused : goal.returns-clause-refused
returns-clause-refused c =
    let same : c.self.inside.banks.slots ≡ c.args.self.now.memory.slots = ap (λ (l : Loaded). l.memory.slots) c.self.view_is in
    IfErr-weaker c.active.result _ _
    (λ fault why. rw why.0 (stops_active c.args.self.now.memory.slots c.args.number (seen_by c.args.self.now c.args.id) (seen_in (kept c.in_ok-user.user.now)) c.in_ok-user.ensures.ok.2
    c.in_ok-segment.segment.head c.in_ok-segment.segment.handle c.in_ok-segment.ensures.ok.2 c.in_ok-segment.ensures.ok.1
    (sym c.is_dynamic.ensures ∙ c.if-not-is_dynamic.false)
    (ap (λ (t : Slots). is_active (presence t c.in_ok-segment.segment.handle)) (sym same) ∙ why.1)))
    c.active.ensures.err

pub returns-clause-can : goal.returns-clause-can
returns-clause-can c =
    let same : c.self.inside.banks.slots ≡ c.args.self.now.memory.slots = ap (λ (l : Loaded). l.memory.slots) c.self.view_is in
    let dynamic = sym c.is_dynamic.ensures ∙ c.if-not-is_dynamic.false in
    IfOk-weaker c.active.result _ _
    (λ h here.
    let active : is_active (presence c.args.self.now.memory.slots c.in_ok-segment.segment.handle) ≡ true = ap (λ (t : Slots). is_active (presence t c.in_ok-segment.segment.handle)) (sym same) ∙ ap (λ (o : Option Handle). is_active (presence c.self.inside.banks.slots o)) here.0 ∙ ap is_active here.1.1 in
    record {
      passes = passes c.args.self.now.memory.slots c.args.number (seen_by c.args.self.now c.args.id) (seen_in (kept c.in_ok-user.user.now)) c.in_ok-user.ensures.ok.2
          c.in_ok-segment.segment.head c.in_ok-segment.segment.handle c.in_ok-segment.ensures.ok.2 c.in_ok-segment.ensures.ok.1 dynamic active;
      is = record {
        kept = kept c.in_ok-user.user.now;
        made = c.in_ok-user.ensures.ok.0;
        runs = c.in_ok-user.ensures.ok.1;
        head = c.in_ok-segment.segment.head;
        head' = c.in_ok-segment.ensures.ok.0;
        handle = c.in_ok-segment.ensures.ok.1 ∙ here.0;
        address = here.1.0;
        active = ap (λ (t : Slots). presence t (Some h)) (sym same) ∙ here.1.1;
      };
      dynamic = dynamic;
    })
    c.active.ensures.ok
