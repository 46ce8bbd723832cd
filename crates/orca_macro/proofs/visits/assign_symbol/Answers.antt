use Rattle.macro_meaning.specs.Effect as effects
use Rattle.macro_meaning.specs.Visit.{visit_after, move_of}
use Rattle.orca_symbols.specs.Frame.{frame, stack_of}
use Rattle.orca_symbols.specs.View.{symbols_of, texts_of}
use Rattle.orca_macro.proofs.Moves.{assigned_stands}
use Rattle.orca_macro.proofs.visits.assign_symbol.Goals as goal

pub returns-clause-moves : goal.returns-clause-moves
unfolding move_of
returns-clause-moves c = λ before v line stands.
    c.advance.ensures before (visit_after v (effects.SetSymbol c.args.name.now c.args.kind c.args.text)) v line (texts_of c.assign.new.texts) c.args.state.now.calls
    (assigned_stands before v c.args.name.now c.args.kind c.args.text (frame c.args.state.now.scope) (stack_of c.args.state.now.frames) (texts_of c.args.state.now.texts) (texts_of c.assign.new.texts) c.args.state.now.calls
    (symbols_of c.assign.new.symbols) stands c.in_ok-assign.ensures)
