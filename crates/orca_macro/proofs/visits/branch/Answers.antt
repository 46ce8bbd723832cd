use Rattle.orca_symbols.specs.Frame.{frame}
use Rattle.orca_macro.proofs.Moves.{branch_goes}
use Rattle.orca_macro.proofs.visits.branch.Goals as goal

pub returns : goal.returns
returns c = λ before v line fs texts calls stands.
    branch_goes c.args.program.now before v line c.args.name.now (frame c.args.now.now) fs texts calls c.in-Some.line stands c.in-Some.ensures c.if-now-eq0.false
