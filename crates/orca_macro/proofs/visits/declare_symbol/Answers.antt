use Rattle.macro_meaning.specs.Effect as effects
use Rattle.macro_meaning.specs.Visit.{visit_after, move_of}
use Rattle.orca_symbols.specs.Frame.{frame, stack_of}
use Rattle.orca_symbols.specs.View.{symbols_of, texts_of}
use Rattle.orca_macro.proofs.Moves.{declared_stands}
use Rattle.orca_macro.proofs.visits.declare_symbol.Goals as goal

pub returns-clause-moves : goal.returns-clause-moves
unfolding move_of
returns-clause-moves c = λ before v line stands.
    c.advance.ensures before (visit_after v (effects.DeclareSymbol c.args.name.now c.args.declaration)) v line (texts_of c.declare.new.texts) c.args.state.now.calls
    (declared_stands before v c.args.name.now c.args.declaration (frame c.args.state.now.scope) (stack_of c.args.state.now.frames) (texts_of c.args.state.now.texts) (texts_of c.declare.new.texts) c.args.state.now.calls
    (symbols_of c.declare.new.symbols) stands c.in_ok-declare.ensures)
