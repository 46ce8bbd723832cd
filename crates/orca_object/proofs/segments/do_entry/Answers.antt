use Rattle.orca_object.proofs.Lefts.{entry_left}
use Rattle.orca_operands.proofs.After.{then_if}
use Rattle.orca_object.proofs.segments.do_entry.Goals as goal

pub returns : goal.returns
returns c = then_if c.entering.result (λ done leaves state l text shows. entry_left state l c.args.label text done c.entering.new.kept (leaves state shows)) c.entering.ensures
