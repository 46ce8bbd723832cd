use Rattle.link_laws.specs.laws.NameLaws.{exports_are_read_back, paths_are_read_back}
use Rattle.link_laws.proofs.laws.linked_names_are_read_back.Goals as goal

pub returns : goal.returns
returns c = record { exports = exports_are_read_back; paths = paths_are_read_back }
