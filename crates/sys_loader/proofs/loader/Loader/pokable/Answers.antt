use Rattle.std.proofs.Common.{◌≡◌, ◌≤◌, true, ◌+◌, Option, Some, sym, ap, ◌∙◌, arith}
use Rattle.std.proofs.lemmas.Result.{err_from_is_err_and}
use Rattle.iigs_meaning.specs.declared.handles.Handle.{Handle}
use Rattle.iigs_meaning.specs.Fits.{Slots}
use Rattle.loader_machine.specs.Presences.{presence, is_active}
use Rattle.loader_agrees.specs.Agrees.{Loaded, seen_in, seen_by}
use Rattle.loader_users.specs.View.{kept}
use Rattle.sys_loader.proofs.Poking.{stops_active, stops_plain, stops_inside, passes, after_segment, after_running, poke_is}
use Rattle.sys_loader.proofs.loader.Loader.pokable.Goals as goal

pub returns-in_err-user-clause-refused : goal.returns-in_err-user-clause-refused
returns-in_err-user-clause-refused c =
    let p = err_from_is_err_and c.from_residual.result c.from_residual.ensures.1 in
    let slots = c.args.self.now.memory.slots in
    rw (p.1, p.2) (poke_is slots c.args.number c.args.at (seen_by c.args.self.now c.args.id) ∙ c.in_err-user.ensures.err (after_running slots c.args.number c.args.at))

pub returns-in_err-segment-clause-refused : goal.returns-in_err-segment-clause-refused
returns-in_err-segment-clause-refused c =
    let p = err_from_is_err_and c.from_residual-in_err-segment.result c.from_residual-in_err-segment.ensures.1 in
    let slots = c.args.self.now.memory.slots in
    let seen = seen_in (kept c.in_ok-user.user.now) in
    rw (p.1, p.2) (poke_is slots c.args.number c.args.at (seen_by c.args.self.now c.args.id) ∙ c.in_ok-user.ensures.ok.2 (after_running slots c.args.number c.args.at)
    ∙ c.in_err-segment.ensures.err (after_segment slots c.args.number c.args.at seen))

pub returns-in_err-h-clause-refused : goal.returns-in_err-h-clause-refused
returns-in_err-h-clause-refused c =
    let p = err_from_is_err_and c.from_residual-in_err-h.result c.from_residual-in_err-h.ensures.1 in
    let same : c.self.inside.banks.slots ≡ c.args.self.now.memory.slots = ap (λ (l : Loaded). l.memory.slots) c.self.view_is in
    let why = c.in_err-h.ensures.err in
    rw (p.1, p.2, why.0) (stops_active c.args.self.now.memory.slots c.args.number c.args.at (seen_by c.args.self.now c.args.id) (seen_in (kept c.in_ok-user.user.now)) c.in_ok-segment.segment.head
    c.in_ok-segment.segment.handle c.in_ok-user.ensures.ok.2 c.in_ok-segment.ensures.ok.2 c.in_ok-segment.ensures.ok.1
    (ap (λ (t : Slots). is_active (presence t c.in_ok-segment.segment.handle)) (sym same) ∙ why.1))

pub returns-then-is_table-clause-refused : goal.returns-then-is_table-clause-refused
returns-then-is_table-clause-refused c =
    let same : c.self.inside.banks.slots ≡ c.args.self.now.memory.slots = ap (λ (l : Loaded). l.memory.slots) c.self.view_is in
    let here = c.in_ok-h.ensures.ok in
    let active : is_active (presence c.args.self.now.memory.slots c.in_ok-segment.segment.handle) ≡ true = ap (λ (t : Slots). is_active (presence t c.in_ok-segment.segment.handle)) (sym same) ∙ ap (λ (o : Option Handle). is_active (presence c.self.inside.banks.slots o)) here.0 ∙ ap is_active here.1.1 in
    stops_plain c.args.self.now.memory.slots c.args.number c.args.at (seen_by c.args.self.now c.args.id) (seen_in (kept c.in_ok-user.user.now)) c.in_ok-segment.segment.head
    c.in_ok-segment.segment.handle c.in_ok-user.ensures.ok.2 c.in_ok-segment.ensures.ok.2 c.in_ok-segment.ensures.ok.1 active (sym c.is_table.ensures ∙ c.if-is_table.true)

pub returns-then-at-segment-clause-refused : goal.returns-then-at-segment-clause-refused
returns-then-at-segment-clause-refused c =
    let same : c.self.inside.banks.slots ≡ c.args.self.now.memory.slots = ap (λ (l : Loaded). l.memory.slots) c.self.view_is in
    let here = c.in_ok-h.ensures.ok in
    let active : is_active (presence c.args.self.now.memory.slots c.in_ok-segment.segment.handle) ≡ true = ap (λ (t : Slots). is_active (presence t c.in_ok-segment.segment.handle)) (sym same) ∙ ap (λ (o : Option Handle). is_active (presence c.self.inside.banks.slots o)) here.0 ∙ ap is_active here.1.1 in
    stops_inside c.args.self.now.memory.slots c.args.number c.args.at (seen_by c.args.self.now c.args.id) (seen_in (kept c.in_ok-user.user.now)) c.in_ok-segment.segment.head
    c.in_ok-segment.segment.handle c.in_ok-user.ensures.ok.2 c.in_ok-segment.ensures.ok.2 c.in_ok-segment.ensures.ok.1 active (sym c.is_table.ensures ∙ c.if-is_table.false) c.if-at-segment.true

pub returns-clause-can : goal.returns-clause-can
returns-clause-can c =
    let same : c.self.inside.banks.slots ≡ c.args.self.now.memory.slots = ap (λ (l : Loaded). l.memory.slots) c.self.view_is in
    let here = c.in_ok-h.ensures.ok in
    let active : is_active (presence c.args.self.now.memory.slots c.in_ok-segment.segment.handle) ≡ true = ap (λ (t : Slots). is_active (presence t c.in_ok-segment.segment.handle)) (sym same) ∙ ap (λ (o : Option Handle). is_active (presence c.self.inside.banks.slots o)) here.0 ∙ ap is_active here.1.1 in
    let within : c.args.at + 1 ≤ c.in_ok-segment.segment.head.length = omega arith in
    record {
      passes = passes c.args.self.now.memory.slots c.args.number c.args.at (seen_by c.args.self.now c.args.id) (seen_in (kept c.in_ok-user.user.now)) c.in_ok-segment.segment.head
          c.in_ok-segment.segment.handle c.in_ok-user.ensures.ok.2 c.in_ok-segment.ensures.ok.2 c.in_ok-segment.ensures.ok.1 active (sym c.is_table.ensures ∙ c.if-is_table.false) within;
      is = record {
        kept = kept c.in_ok-user.user.now;
        made = c.in_ok-user.ensures.ok.0;
        runs = c.in_ok-user.ensures.ok.1;
        head = c.in_ok-segment.segment.head;
        head' = c.in_ok-segment.ensures.ok.0;
        handle = c.in_ok-segment.ensures.ok.1 ∙ here.0;
        address = here.1.0;
        active = ap (λ (t : Slots). presence t (Some c.in_ok-h.h)) (sym same) ∙ here.1.1;
      };
      plain = sym c.is_table.ensures ∙ c.if-is_table.false;
      inside = within;
    }
