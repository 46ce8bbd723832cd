use Rattle.std.proofs.Common.{sym, ap, ◌∙◌}
use Rattle.macro_meaning.specs.Effect as effects
use Rattle.macro_meaning.specs.Visit.{visit_after, move_of}
use Rattle.orca_macro.specs.EffectView.{effect_view}
use Rattle.orca_symbols.specs.Frame.{frame, stack_of}
use Rattle.orca_symbols.specs.View.{texts_of}
use Rattle.orca_macro.proofs.Moves.{at_effect, counted_stands}
use Rattle.orca_macro.proofs.visits.step.Goals as goal

pub returns-in-NoEffect-clause-moves : goal.returns-in-NoEffect-clause-moves
unfolding move_of
returns-in-NoEffect-clause-moves c = λ before v line stands root.
    at_effect c.args.program.now before v line (effect_view c.args.of) (effects.NoEffect) c.advance.result (frame c.advance.new.now) (stack_of c.advance.new.frames) (texts_of c.args.state.now.texts) c.args.state.now.calls (ap effect_view c.in-NoEffect.is)
    (c.advance.ensures before v v line (texts_of c.args.state.now.texts) c.args.state.now.calls stands)

pub returns-in-Emit-clause-moves : goal.returns-in-Emit-clause-moves
unfolding move_of
returns-in-Emit-clause-moves c = λ before v line stands root.
    at_effect c.args.program.now before v line (effect_view c.args.of) (effects.Emit c.in-Emit.field-0) c.advance-in-Emit.result (frame c.advance-in-Emit.new.now) (stack_of c.advance-in-Emit.new.frames) (texts_of c.args.state.now.texts) c.args.state.now.calls (ap effect_view c.in-Emit.is)
    (c.advance-in-Emit.ensures before v v line (texts_of c.args.state.now.texts) c.args.state.now.calls stands)

pub returns-in-BranchTo-clause-moves : goal.returns-in-BranchTo-clause-moves
unfolding move_of
returns-in-BranchTo-clause-moves c = λ before v line stands root.
    at_effect c.args.program.now before v line (effect_view c.args.of) (effects.BranchTo c.bytes-in-BranchTo.result.now) c.branch-program.result (frame c.branch-program.new.now) (stack_of c.args.state.now.frames) (texts_of c.args.state.now.texts) c.args.state.now.calls (ap effect_view c.in-BranchTo.is ∙ ap effects.BranchTo (sym c.bytes-in-BranchTo.ensures.value))
    (c.branch-program.ensures before v line (stack_of c.args.state.now.frames) (texts_of c.args.state.now.texts) c.args.state.now.calls stands)

pub returns-in-SetCounter-clause-moves : goal.returns-in-SetCounter-clause-moves
unfolding move_of
returns-in-SetCounter-clause-moves c = λ before v line stands root.
    at_effect c.args.program.now before v line (effect_view c.args.of) (effects.SetCounter c.in-SetCounter.n) c.advance-in-SetCounter.result (frame c.advance-in-SetCounter.new.now) (stack_of c.advance-in-SetCounter.new.frames) (texts_of c.args.state.now.texts) c.args.state.now.calls (ap effect_view c.in-SetCounter.is)
    (c.advance-in-SetCounter.ensures before (visit_after v (effects.SetCounter c.in-SetCounter.n)) v line (texts_of c.args.state.now.texts) c.args.state.now.calls (counted_stands before v c.in-SetCounter.n (frame c.args.state.now.scope) (stack_of c.args.state.now.frames) (texts_of c.args.state.now.texts) c.args.state.now.calls stands))

pub returns-in-Exit-clause-moves : goal.returns-in-Exit-clause-moves
unfolding move_of
returns-in-Exit-clause-moves c = λ before v line stands root.
    at_effect c.args.program.now before v line (effect_view c.args.of) (effects.Exit) c.leave.result (frame c.leave.new.now) (stack_of c.leave.new.frames) (texts_of c.args.state.now.texts) c.args.state.now.calls (ap effect_view c.in-Exit.is)
    (c.leave.ensures before v v line (texts_of c.args.state.now.texts) c.args.state.now.calls stands)

pub returns-clause-moves : goal.returns-clause-moves
unfolding move_of
returns-clause-moves c = λ before v line stands root. ap (λ x. move_of c.args.program.now before v line (effect_view x)) c.in-Fail.is
