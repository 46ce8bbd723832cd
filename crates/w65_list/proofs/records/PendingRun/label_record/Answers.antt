use Rattle.std.proofs.Common.{[], ◌∷◌}
use Rattle.std.specs.Prelude.{not, ◌||◌, ◌&&◌, ◌==◌}
use Rattle.std.proofs.lemmas.Result.{on_ok_weaker}
use Rattle.list_meaning.specs.Listed.{Labels}
use Rattle.list_meaning.specs.Listing.{with_run_written, then_said, with_name, is_listable, is_among}
use Rattle.w65_list.proofs.Gives.{named_given, too_long}
use Rattle.w65_list.proofs.records.PendingRun.label_record.Goals as goal

pub returns-clause-given : goal.returns-clause-given
returns-clause-given c =
    let name = c.args.name.now in
    on_ok_weaker c.label.result (λ gave b is. named_given c.may_stand.result c.is_new.result (not c.args.global || c.args.private == 0) (is_listable name) (not (is_among b.names name))
    (with_name name (then_said (Labels c.args.global name ∷ []) (with_run_written b))) c.args.out.now c.label.new.out c.label.new.self c.may_stand.ensures c.if-not-may_stand.false (c.is_new.ensures b is) c.if-not-is_new.false
    (gave (record b { names = name ∷ b.names }) (c.in_ok-define.ensures b is))) c.label.ensures.gave

pub returns-clause-refused : goal.returns-clause-refused
returns-clause-refused c =
    let name = c.args.name.now in
    λ stops b is. too_long ((not c.args.global || c.args.private == 0) && is_listable name && not (is_among b.names name)) (with_name name (then_said (Labels c.args.global name ∷ []) (with_run_written b)))
    (c.label.ensures.long stops (record b { names = name ∷ b.names }) (c.in_ok-define.ensures b is))
