use Rattle.orca_text.specs.DecodedView.{decoded_line}
use Rattle.orca_object.proofs.Assembling.{goes_on, stops}
use Rattle.orca_object.proofs.assembly.step_all.Goals as goal

pub returns-in-Err : goal.returns-in-Err
returns-in-Err c =
    let so_far = c.lines.invariant in
    let wrong = rw c.in-Err.is at (c.in_ok-step.ensures so_far.state so_far.shows) in
    stops c.args.lines.now c.lines.place c.lines.assembly (decoded_line c.in-Some.line.now) c.in-Err.cause c.fault_at.result so_far c.in-Some.ensures.line wrong c.fault_at.ensures

pub lines-preserved : goal.lines-preserved
lines-preserved c =
    let so_far = c.lines.invariant in
    let step = rw c.in-Ok.is at (c.in_ok-step.ensures so_far.state so_far.shows) in
    goes_on c.args.lines.now c.lines.place c.lines.assembly c.step.new.self (decoded_line c.in-Some.line.now) so_far c.in-Some.ensures.line step
