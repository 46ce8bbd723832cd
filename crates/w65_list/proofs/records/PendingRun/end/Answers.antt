use Rattle.std.proofs.Common.{[], ◌∷◌, ◌++◌}
use Rattle.std.proofs.lemmas.Result.{on_ok_weaker}
use Rattle.list_meaning.specs.Listed.{Ds, EndIs}
use Rattle.list_meaning.specs.Listing.{with_run_written, unless_zero}
use Rattle.w65_list.proofs.Gives.{lines_gave}
use Rattle.w65_list.proofs.records.PendingRun.end.Goals as goal

pub returns-clause-gave : goal.returns-clause-gave
returns-clause-gave c =
    on_ok_weaker c.put_reserved_and_end.result (λ wrote b is. lines_gave (with_run_written b) (unless_zero Ds c.args.res_spc ++ EndIs ∷ []) c.args.out.now c.flush.new.out c.put_reserved_and_end.new.out c.flush.new.self (c.in_ok-flush.ensures.gave b is) wrote) c.put_reserved_and_end.ensures.wrote
