use Rattle.orca_text.specs.View.{line}
use Rattle.orca_macro.proofs.Scans.{ended_none, ended_some}
use Rattle.orca_macro.proofs.definitions.end_of_file.Goals as goal

pub returns-in-None : goal.returns-in-None
returns-in-None c = λ in_source old new is. ended_none in_source c.args.lines.now c.args.scan.plain old new c.args.scan.begun c.in-None.is is

pub returns-in-Some-get : goal.returns-in-Some-get
returns-in-Some-get c = λ in_source old new is.
    ended_some in_source c.args.lines.now c.args.scan.plain old new c.args.scan.begun c.in-Some.begins (line c.in-Some-get.line.now) c.fault_at.result c.in-Some.is is c.in-Some-get.ensures.line c.fault_at.ensures
