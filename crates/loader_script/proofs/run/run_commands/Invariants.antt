use Rattle.std.proofs.Common.{take}
use Rattle.omf_io.specs.Outside.{outside}
use Rattle.loader_script.specs.Running.{IsUnderWay}
use Rattle.loader_script.proofs.run.run_commands.Given as goal

-- the commands before this place were answered, and their replies printed
abbrev pub invariant-commands : goal.invariant-commands
invariant-commands g l = IsUnderWay (take l.place l.script) l.loader (outside (g.F.Files.seen l.fn.files) (g.F.Files.seen l.files) (g.S.Sink.seen l.fn.out) (g.S.Sink.seen l.out))
