use Rattle.std.proofs.Common.{◌++◌, ◌∷◌, [], subst}
use Rattle.macro_meaning.specs.Visit.{Move}
use Rattle.orca_symbols.specs.Frame.{frame, stack_of}
use Rattle.orca_macro.specs.Stacks.{MovesTo}
use Rattle.orca_macro.proofs.Moves.{onward_goes, onward_ends}
use Rattle.orca_macro.proofs.visits.advance.Goals as goal

pub returns-in-Some : goal.returns-in-Some
returns-in-Some c = λ before v last line texts calls stands.
    onward_goes c.args.program.now before v last line _ (frame c.args.now.now) (stack_of c.args.frames.now) texts calls stands c.in-Some.ensures.line

pub returns-in-None : goal.returns-in-None
returns-in-None c = λ before v last line texts calls stands.
    subst (λ (m : Move). MovesTo m (before ++ last ∷ []) line c.leave.result (frame c.leave.new.now) (stack_of c.leave.new.frames) texts calls)
    (onward_ends c.args.program.now before v (frame c.args.now.now) (stack_of c.args.frames.now) texts calls stands c.in-None.ensures.line)
    (c.leave.ensures before v last line texts calls stands)
