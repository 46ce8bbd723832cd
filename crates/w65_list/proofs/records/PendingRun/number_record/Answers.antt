use Rattle.std.proofs.Common.{[], ◌∷◌, sym, ◌∙◌}
use Rattle.std.specs.Prelude.{not, ◌&&◌}
use Rattle.std.proofs.lemmas.Result.{on_ok_weaker}
use Rattle.list_meaning.specs.Listed.{Equates}
use Rattle.list_meaning.specs.Listing.{with_run_written, then_said, with_name, is_listable, is_among}
use Rattle.w65_list.proofs.Gives.{given_of, too_long}
use Rattle.w65_list.proofs.records.PendingRun.number_record.Goals as goal

pub returns-clause-given : goal.returns-clause-given
returns-clause-given c =
    let name = c.args.name.now in
    on_ok_weaker c.equate.result (λ gave b is. given_of (is_listable name && not (is_among b.names name)) (with_name name (then_said (Equates c.args.global name c.args.n ∷ []) (with_run_written b))) c.args.out.now c.equate.new.out c.equate.new.self
    (sym (c.is_new.ensures b is) ∙ c.if-not-is_new.false) (gave (record b { names = name ∷ b.names }) (c.in_ok-define.ensures b is))) c.equate.ensures.gave

pub returns-clause-refused : goal.returns-clause-refused
returns-clause-refused c =
    let name = c.args.name.now in
    λ stops b is. too_long (is_listable name && not (is_among b.names name)) (with_name name (then_said (Equates c.args.global name c.args.n ∷ []) (with_run_written b)))
    (c.equate.ensures.long stops (record b { names = name ∷ b.names }) (c.in_ok-define.ensures b is))
