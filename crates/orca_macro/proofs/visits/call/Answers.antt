use Rattle.std.proofs.Common.{sym, ap, ◌∙◌, ◌+◌, ◌∷◌}
use Rattle.orca_symbols.specs.declared.frames.CallScope.{CallScope}
use Rattle.macro_meaning.specs.Visit.{move_of}
use Rattle.orca_symbols.specs.Frame.{frame, stack_of}
use Rattle.orca_symbols.specs.View.{symbols_of, texts_of}
use Rattle.orca_macro.proofs.Moves.{call_deep, called}
use Rattle.orca_macro.proofs.visits.call.Goals as goal

pub returns-then-count-eq-MOST_NESTED-clause-moves : goal.returns-then-count-eq-MOST_NESTED-clause-moves
unfolding move_of
returns-then-count-eq-MOST_NESTED-clause-moves c = λ before v line stands root.
    call_deep before v line c.args.place (symbols_of c.args.symbols) (frame c.args.state.now.scope) (stack_of c.args.state.now.frames) (texts_of c.args.state.now.texts) c.args.state.now.calls stands
    (sym c.count.ensures ∙ c.if-count-eq-MOST_NESTED.true)

pub returns-clause-moves : goal.returns-clause-moves
returns-clause-moves c = λ before v line stands root.
    let scope = c.args.state.now.scope in
    called c.args.program.now before v line c.args.place (symbols_of c.args.symbols) (frame scope) (frame c.replace-caller.new.dest) (stack_of c.args.state.now.frames) (stack_of c.suspend.new.frames)
    (texts_of c.args.state.now.texts) c.args.state.now.calls c.rise.new.self c.args.root stands (λ e. c.if-count-eq-MOST_NESTED.false (c.count.ensures ∙ e)) root
    (ap frame c.replace-caller.ensures.after)
    (c.in_ok-suspend.ensures ∙ ap (λ (s : CallScope). record (frame s) { line = s.line + 1 } ∷ stack_of c.args.state.now.frames) c.replace-caller.ensures.value)
    c.in_ok-rise.ensures
