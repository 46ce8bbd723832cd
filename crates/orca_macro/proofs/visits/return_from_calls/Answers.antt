use Rattle.orca_symbols.specs.Frame.{frame, stack_of}
use Rattle.orca_macro.proofs.Returns.{comes_back, goes_further}
use Rattle.orca_macro.proofs.visits.return_from_calls.Goals as goal

pub returns-in-Some-line : goal.returns-in-Some-line
returns-in-Some-line c = λ before last depth caller is.
    comes_back c.args.program.now before last depth caller (frame c.in-Some.scope) (stack_of c.frames.frames) (stack_of c.pop.new.self) _ (c.frames.invariant before last depth caller is) c.in-Some.ensures c.in-Some-line.ensures.line

pub frames-preserved : goal.frames-preserved
frames-preserved c = λ before last depth caller is.
    goes_further c.args.program.now before last depth caller (frame c.in-Some.scope) (stack_of c.frames.frames) (stack_of c.pop.new.self) (c.frames.invariant before last depth caller is) c.in-Some.ensures c.in-None.ensures.line
