use Rattle.std.proofs.Common.{refl}
use Rattle.macro_meaning.specs.Effect as meaning
use Rattle.macro_meaning.specs.Visit.{move_of, setting_of}
use Rattle.macro_meaning.specs.laws.Steps.{given_by}
use Rattle.orca_text.specs.View.{line}
use Rattle.orca_symbols.specs.View.{texts_of}
use Rattle.orca_macro.proofs.Given.{given_line, moves_on}
use Rattle.orca_macro.proofs.Runs.{visit_is}
use Rattle.orca_macro.proofs.expansion.pass_on.Goals as goal

pub returns-clause-visited : goal.returns-clause-visited
returns-clause-visited c = λ before v stands here few.
    let l = line c.args.of.now in
    record {
      given = given_by l (meaning.Emit l.text);
      move = move_of c.args.program.now before v l (meaning.Emit l.text);
      is = visit_is c.args.program.now before v l (meaning.Emit l.text) here few (c.requires.given.is (setting_of c.args.program.now v l.number) refl);
      new_is = given_line l c.args.out.now c.copy.new.self c.requires.own c.in_ok-copy.ensures.ok;
      moves = moves_on c.args.program.now before v l _ _ _ _ _ (c.advance.ensures before v v l (texts_of c.args.state.now.texts) c.args.state.now.calls stands);
    }
