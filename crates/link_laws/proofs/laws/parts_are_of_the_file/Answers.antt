use Rattle.link_laws.specs.laws.PartLaws.{parts_are_of_the_file, outside_is_called}
use Rattle.link_laws.proofs.laws.parts_are_of_the_file.Goals as goal

pub returns : goal.returns
returns c = record { parts = parts_are_of_the_file; called = outside_is_called }
