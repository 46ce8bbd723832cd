use Rattle.std.proofs.lemmas.Result.{on_ok_weaker}
use Rattle.list_meaning.specs.Listed.{Equates}
use Rattle.list_meaning.specs.Listing.{with_run_written}
use Rattle.w65_list.proofs.Gives.{line_gave}
use Rattle.w65_list.proofs.records.PendingRun.equate.Goals as goal

pub returns-clause-gave : goal.returns-clause-gave
returns-clause-gave c =
    on_ok_weaker c.put_equate.result (λ wrote b is. line_gave (with_run_written b) (Equates c.args.global c.args.name.now c.args.n) c.args.out.now c.flush.new.out c.put_equate.new.out c.flush.new.self (c.in_ok-flush.ensures.gave b is) wrote) c.put_equate.ensures.wrote
