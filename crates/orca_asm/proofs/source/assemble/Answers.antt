use Rattle.orca_macro.specs.Files.{texts_of_files}
use Rattle.orca_asm.proofs.Sources.{answered}
use Rattle.orca_asm.proofs.source.assemble.Goals as goal

pub returns-in-Err-clause-refused : goal.returns-in-Err-clause-refused
returns-in-Err-clause-refused c = c.macro_fault.ensures.reported c.args.source.now (texts_of_files c.args.macros.now.items) c.in-Err.ensures.refused

pub returns-in-Ok-assemble_lines-clause-refused : goal.returns-in-Ok-assemble_lines-clause-refused
returns-in-Ok-assemble_lines-clause-refused c =
    answered c.args.source.now (texts_of_files c.args.macros.now.items) c.in-Ok.lines c.in-Ok-assemble_lines.answer c.in-Ok.ensures.lines c.in-Ok-assemble_lines.ensures
