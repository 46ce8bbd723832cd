use Rattle.macro_meaning.specs.Visit.{move_of}
use Rattle.macro_meaning.specs.laws.Steps.{given_by}
use Rattle.orca_text.specs.View.{line}
use Rattle.orca_macro.specs.EffectView.{effect_view}
use Rattle.orca_macro.proofs.Runs.{visit_is}
use Rattle.orca_macro.proofs.expansion.carry_out.Goals as goal

pub returns-clause-visited : goal.returns-clause-visited
returns-clause-visited c = λ before v stands here few.
    let root = c.root_of-root.ensures before v stands in
    record {
      given = given_by (line c.args.of.now) (effect_view c.in_ok-found.found);
      move = move_of c.args.program.now before v (line c.args.of.now) (effect_view c.in_ok-found.found);
      is = visit_is c.args.program.now before v (line c.args.of.now) (effect_view c.in_ok-found.found) here few (c.in_ok-found.ensures before v stands root);
      new_is = c.in-Ok.ensures.lines;
      moves = c.in_ok-outcome.ensures.moves before v (line c.args.of.now) stands root;
    }
