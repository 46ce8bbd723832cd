-- What records without an expression give.
use Rattle.std.specs.Prelude.{ℕ, List, [], map}
use Rattle.omf_format.specs.Record.{Record, Const, LongConst, Align, Org, Space}
use Rattle.load_meaning.specs.Cells.{Cell, Byte}
use Rattle.omf_format.specs.Number.{padding}
use Rattle.link_meaning.specs.LinkedCells.{zeros}

-- the cells of a record that is at this place of its segment; those of an expression follow from its value
abbrev pub plain_cells : ℕ → Record → List Cell
plain_cells at (Const bytes) = map Byte bytes
plain_cells at (LongConst bytes) = map Byte bytes
plain_cells at (Align n) = zeros (padding n at)
plain_cells at (Org n) = zeros n
plain_cells at (Space n) = zeros n
plain_cells _ _ = []
