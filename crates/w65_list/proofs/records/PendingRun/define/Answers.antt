use Rattle.std.proofs.lemmas.Result.{on_ok_weaker}
use Rattle.w65_list.proofs.records.PendingRun.define.Goals as goal

pub returns : goal.returns
returns c = on_ok_weaker c.add.result (λ adds b is. record { widths = is.widths; run = is.run; names = adds b.names is.names }) c.add.ensures
