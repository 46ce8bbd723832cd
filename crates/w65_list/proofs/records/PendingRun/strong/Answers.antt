use Rattle.std.proofs.lemmas.Result.{on_ok_weaker}
use Rattle.list_meaning.specs.Listed.{StrongIs}
use Rattle.list_meaning.specs.Listing.{with_run_written}
use Rattle.w65_list.proofs.Gives.{line_gave}
use Rattle.w65_list.proofs.records.PendingRun.strong.Goals as goal

pub returns-clause-gave : goal.returns-clause-gave
returns-clause-gave c =
    on_ok_weaker c.put_dc_strong.result (λ wrote b is. line_gave (with_run_written b) (StrongIs c.args.name.now) c.args.out.now c.flush.new.out c.put_dc_strong.new.out c.flush.new.self (c.in_ok-flush.ensures.gave b is) wrote) c.put_dc_strong.ensures.wrote
