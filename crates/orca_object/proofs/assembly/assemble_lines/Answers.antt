use Rattle.orca_object.proofs.assembly.assemble_lines.Goals as goal

pub returns : goal.returns
returns c = c.object_or_fault.ensures.assembled c.args.lines.now c.in_ok-stepped.ensures
