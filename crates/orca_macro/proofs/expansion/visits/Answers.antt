use Rattle.orca_text.specs.View.{line}
use Rattle.orca_macro.proofs.Runs.{starts, here_line, not_full, finished, full, goes, ended, stopped}
use Rattle.orca_macro.proofs.expansion.visits.Goals as goal

pub visits-init : goal.visits-init
visits-init c = starts c.args.program.now c.args.state.now c.args.out.now c.requires.scope c.requires.frames c.requires.texts c.requires.calls c.requires.none

pub returns-in_default-clause-lines : goal.returns-in_default-clause-lines
returns-in_default-clause-lines c = finished c.args.program.now c.visits.state c.visits.count c.visits.out c.visits.invariant (rw c.in_default.is at c.effect_at.ensures.line)

pub returns-then-count-eq-MOST_VISITS-clause-refused : goal.returns-then-count-eq-MOST_VISITS-clause-refused
returns-then-count-eq-MOST_VISITS-clause-refused c = full c.args.program.now c.visits.state c.visits.count c.visits.out (line c.in-Some.line.now) _ c.visits.invariant (rw c.in-Some.is at c.effect_at.ensures.line) c.if-count-eq-MOST_VISITS.true c.fault_at.ensures

pub returns-in-Ends-clause-lines : goal.returns-in-Ends-clause-lines
returns-in-Ends-clause-lines c =
    let u = c.visits.invariant in
    let visited = c.in_ok-visit.ensures.visited u.before u.v u.stands (here_line c.args.program.now c.visits.state c.visits.count c.visits.out u (line c.in-Some.line.now) (rw c.in-Some.is at c.effect_at.ensures.line))
    (not_full c.args.program.now c.visits.state c.visits.count c.visits.out u c.if-count-eq-MOST_VISITS.false) in
    ended c.args.program.now c.visits.state c.visit.new.state c.visits.count c.visits.out c.visit.new.out (line c.in-Some.line.now) u (rw c.in-Ends.is at visited)

pub returns-in-Stops-clause-refused : goal.returns-in-Stops-clause-refused
returns-in-Stops-clause-refused c =
    let u = c.visits.invariant in
    let visited = c.in_ok-visit.ensures.visited u.before u.v u.stands (here_line c.args.program.now c.visits.state c.visits.count c.visits.out u (line c.in-Some.line.now) (rw c.in-Some.is at c.effect_at.ensures.line))
    (not_full c.args.program.now c.visits.state c.visits.count c.visits.out u c.if-count-eq-MOST_VISITS.false) in
    stopped c.args.program.now c.visits.state c.visit.new.state c.visits.count c.visits.out c.visit.new.out (line c.in-Some.line.now) c.in-Stops.cause _ u (rw c.in-Stops.is at visited) c.fault_at-in-Stops.ensures

pub visits-preserved : goal.visits-preserved
visits-preserved c =
    let u = c.visits.invariant in
    let visited = c.in_ok-visit.ensures.visited u.before u.v u.stands (here_line c.args.program.now c.visits.state c.visits.count c.visits.out u (line c.in-Some.line.now) (rw c.in-Some.is at c.effect_at.ensures.line))
    (not_full c.args.program.now c.visits.state c.visits.count c.visits.out u c.if-count-eq-MOST_VISITS.false) in
    goes c.args.program.now c.visits.state c.visit.new.state c.visits.count c.visits.out c.visit.new.out (line c.in-Some.line.now) u c.if-count-eq-MOST_VISITS.false c.in_ok-visit.ensures.calls c.in_ok-visit.ensures.few (rw c.in-Goes.is at visited)
