use Rattle.std.proofs.Common.{sym, ◌∙◌}
use Rattle.link_resolve.proofs.FileRefusals.{of_segment}
use Rattle.link_resolve.proofs.input.read_segments.Goals as goal

pub returns-in-Err-clause-refused : goal.returns-in-Err-clause-refused
returns-in-Err-clause-refused c = c.file_fault.ensures.reported c.args.bytes.now c.in-Err.ensures.refused

pub returns-clause-refused : goal.returns-clause-refused
returns-clause-refused c =
    of_segment c.in-Ok.list c.args.file c.args.bytes.now (c.in-Some.segment, (c.in-Some.cause, c.in-Some.at)) c.fault_in.result c.in-Ok.ensures.found (sym c.segments_fault.ensures ∙ c.in-Some.is) c.fault_in.ensures
