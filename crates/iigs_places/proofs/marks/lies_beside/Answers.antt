use Rattle.std.proofs.Common.{leb-true}
use Rattle.std.proofs.lemmas.Bool.{leb-false}
use Rattle.iigs_places.proofs.Neighbours.{beside_none, beside_last, shares_last}
use Rattle.iigs_places.proofs.marks.lies_beside.Goals as goal

pub returns-in-None-clause-yes : goal.returns-in-None-clause-yes
returns-in-None-clause-yes c = λ yes. beside_none c.args.marks.now c.requires.once c.requires.sized c.requires.apart c.args.slot c.args.address c.args.size c.in-None.ensures

pub returns-in-Some-clause-yes : goal.returns-in-Some-clause-yes
returns-in-Some-clause-yes c = λ yes. beside_last c.args.marks.now c.requires.once c.requires.sized c.requires.apart c.args.slot c.args.address c.args.size c.in-Some.last c.in-Some.ensures
    (leb-true c.in-Some.last.end c.args.address yes)

pub returns-in-Some-clause-no : goal.returns-in-Some-clause-no
returns-in-Some-clause-no c = λ no. shares_last c.args.marks.now c.requires.once c.requires.sized c.requires.apart c.args.slot c.args.address c.args.size c.in-Some.last c.in-Some.ensures
    (leb-false c.in-Some.last.end c.args.address no)
