use Rattle.std.proofs.lemmas.Result.{on_ok_weaker}
use Rattle.w65_list.proofs.records.PendingRun.flush_rest.Goals as goal

pub returns-clause-gave : goal.returns-clause-gave
returns-clause-gave c = on_ok_weaker c.flush.result (λ gave b rest opcode is run. gave (record b { run = rest }) (c.shorten.ensures b rest opcode is run)) c.flush.ensures.gave

pub returns-clause-long : goal.returns-clause-long
returns-clause-long c = λ stops b rest opcode is run. c.flush.ensures.long stops (record b { run = rest }) (c.shorten.ensures b rest opcode is run)
