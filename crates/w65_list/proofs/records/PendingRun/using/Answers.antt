use Rattle.std.proofs.lemmas.Result.{on_ok_weaker}
use Rattle.list_meaning.specs.Listed.{UsingIs}
use Rattle.list_meaning.specs.Listing.{with_run_written}
use Rattle.w65_list.proofs.Gives.{line_gave}
use Rattle.w65_list.proofs.records.PendingRun.using.Goals as goal

pub returns-clause-gave : goal.returns-clause-gave
returns-clause-gave c =
    on_ok_weaker c.put_using.result (λ wrote b is. line_gave (with_run_written b) (UsingIs c.args.name.now) c.args.out.now c.flush.new.out c.put_using.new.out c.flush.new.self (c.in_ok-flush.ensures.gave b is) wrote) c.put_using.ensures.wrote
