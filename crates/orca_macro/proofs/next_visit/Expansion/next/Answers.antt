use Rattle.std.proofs.Common.{Some, refl}
use Rattle.orca_text.specs.View.{line}
use Rattle.orca_macro.proofs.NextVisits.{here, not_full, full, made}
use Rattle.orca_macro.proofs.next_visit.Expansion.next.Goals as goal

pub returns-then-self-eq-MOST_VISITS-clause-visited : goal.returns-then-self-eq-MOST_VISITS-clause-visited
returns-then-self-eq-MOST_VISITS-clause-visited c = λ before v n.
    full c.args.program.now before v c.args.self.now.state c.args.self.now.count n _ _ c.args.out.now c.in-Some.ensures.line c.if-self-eq-MOST_VISITS.true c.count-depth.ensures refl

pub returns-clause-visited : goal.returns-clause-visited
returns-clause-visited c = λ before v n.
    let s = c.args.self.now.state in
    let there = here c.args.program.now before v s c.args.self.now.count n (Some (line c.in-Some.line.now)) c.in-Some.ensures.line in
    let few = not_full c.args.program.now before v s c.args.self.now.count n c.if-self-eq-MOST_VISITS.false in
    made c.args.program.now before v s c.args.self.now.count n _ c.visit.new.state c.args.out.now c.visit.new.out c.in-Some.ensures.line c.if-self-eq-MOST_VISITS.false c.count-depth.ensures c.in_ok-flow.ensures.calls
    (c.in_ok-flow.ensures.visited before v n.stands there few)
