use Rattle.load_meaning.specs.laws.CellLaws.{loadable_has}
use Rattle.omf_cells.proofs.laws.load_segments_are_sound.Goals as goal

pub returns : goal.returns
returns c = loadable_has
