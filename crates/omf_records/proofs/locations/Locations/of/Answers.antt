use Rattle.std.proofs.Common.{ap, ◌∙◌}
use Rattle.omf_format.specs.Super.{locations_left}
use Rattle.omf_format.specs.laws.SuperLaws.{locations_are}
use Rattle.omf_records.proofs.locations.Locations.of.Goals as goal

pub returns-clause-pages : goal.returns-clause-pages
returns-clause-pages c pages each text = ap (locations_left 0 0) text ∙ locations_are 0 pages each
