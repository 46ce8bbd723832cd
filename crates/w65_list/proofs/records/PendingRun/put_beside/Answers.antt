use Rattle.std.proofs.lemmas.Result.{on_ok_weaker}
use Rattle.list_meaning.specs.Listing.{with_run_written, dc_of_formula, weak_of}
use Rattle.w65_list.proofs.Gives.{line_gave}
use Rattle.w65_list.proofs.records.PendingRun.put_beside.Goals as goal

pub returns-clause-gave : goal.returns-clause-gave
returns-clause-gave c =
    on_ok_weaker c.put_apart.result (λ wrote b tree is spells. line_gave (with_run_written b) (dc_of_formula c.args.count tree (weak_of tree)) c.args.out.now c.flush.new.out c.put_apart.new.out c.flush.new.self (c.in_ok-flush.ensures.gave b is) (wrote tree spells))
    c.put_apart.ensures.wrote
