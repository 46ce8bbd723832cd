use Rattle.std.proofs.Common.{◌<◌, length, arith}
use Rattle.omf_records.specs.Segments.{segment_of_view}
use Rattle.link_values.proofs.CircularLaws.{cycle_step, cycle_here, counts_all}
use Rattle.link_values.proofs.circular.cycle_fault.Goals as goal

pub returns-in-Ok : goal.returns-in-Ok
returns-in-Ok c =
    let less : c.members.place < length c.args.program.now = omega (arith, c.members-test.true, c.members-in-members.ensures) in
    cycle_here c.args.program.now c.args.number c.members.place c.members.left (segment_of_view c.in-Some.segment.now) c.in-Ok.name.now c.in-Ok.at c.fault_of.result c.members.invariant less c.in-Some.ensures.value c.in-Ok.ensures c.fault_of.ensures

pub members-preserved : goal.members-preserved
members-preserved c =
    let less : c.members.place < length c.args.program.now = omega (arith, c.members-test.true, c.members-in-members.ensures) in
    cycle_step c.args.program.now c.args.number c.members.place c.members.left c.in-Err.rest (segment_of_view c.in-Some.segment.now) c.members.invariant less c.in-Some.ensures.value c.in-Err.ensures

pub unreachable-requires-2 : goal.unreachable-requires-2
unreachable-requires-2 c = counts_all c.args.program.now c.args.number c.members.place c.members.left c.members.invariant (omega (arith, c.members-test.false, c.members-in-members.ensures)) c.requires
