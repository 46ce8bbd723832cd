use Rattle.load_meaning.specs.laws.CellLaws.{cells-bytes, length-cells, loadable_has}
use Rattle.omf_cells.proofs.laws.load_segments_have_length_cells.Goals as goal

pub returns-clause-length : goal.returns-clause-length
returns-clause-length c = λ file segments number s is at. length-cells segments number s (loadable_has file segments is number s at)

pub returns-clause-bytes : goal.returns-clause-bytes
returns-clause-bytes c = cells-bytes
