use Rattle.std.proofs.Common.{arith, subst}
use Rattle.std.proofs.lemmas.Bool.{eqb-true, eqb-false}
use Rattle.iigs_places.specs.Open.{IsOpen}
use Rattle.iigs_places.proofs.open.is_open.Goals as goal

pub returns-in-Some-clause-yes : goal.returns-in-Some-clause-yes
returns-in-Some-clause-yes c = λ yes. subst (IsOpen c.args.map.now c.args.want.now) (eqb-true c.in-Some.place c.args.at yes) c.in-Some.ensures.open_

pub returns-in-Some-clause-no : goal.returns-in-Some-clause-no
returns-in-Some-clause-no c = λ no. c.in-Some.ensures.first c.args.at (omega arith) (omega (arith, c.in-Some.ensures.after, eqb-false c.in-Some.place c.args.at no))

pub returns-in-None-clause-no : goal.returns-in-None-clause-no
returns-in-None-clause-no c = λ no. c.in-None.ensures c.args.at (omega arith)
