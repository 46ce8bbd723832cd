use Rattle.std.proofs.Common.{ap}
use Rattle.link_file.specs.Valued.{Valued}
use Rattle.link_file.proofs.values.EquateValues.program.Goals as goal

pub returns : goal.returns
returns c = ap (λ (v : Valued). v.list) c.self.view_is
