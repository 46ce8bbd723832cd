-- How cells are seen.
use Rattle.load_meaning.specs.Cells as format
use Rattle.load_content.specs.declared.cell.Cell.{Cell}
use Rattle.load_content.specs.declared.cell.Cell.TheVariants as cell

-- a cell, as the format defines it
abbrev pub view : Cell → format.Cell
view (cell.Byte b) = format.Byte b
view (cell.Part file segment offset shift index) = format.Part file segment offset shift index
