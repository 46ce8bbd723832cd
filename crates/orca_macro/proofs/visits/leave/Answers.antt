use Rattle.orca_symbols.specs.Frame.{frame, stack_of}
use Rattle.orca_macro.proofs.Moves.{left_goes}
use Rattle.orca_macro.proofs.visits.leave.Goals as goal

pub returns-in-Some : goal.returns-in-Some
returns-in-Some c = λ before v last line texts calls stands.
    let back = c.in-Some.ensures before v v.depth v.caller stands.callers in
    rw c.replace-gone.ensures.after
    (left_goes before v last back.0 line _ (frame c.args.now.now) (frame c.in-Some.scope) (stack_of c.args.frames.now) (stack_of c.return_from_calls.new.frames) texts calls stands back.1 back.2)

pub returns-in-None : goal.returns-in-None
returns-in-None c = λ before v last line texts calls stands. c.in-None.ensures before v v.depth v.caller stands.callers
