use Rattle.std.proofs.Common.{arith}
use Rattle.load_meaning.specs.Cells.{segment_bytes}
use Rattle.omf_records.specs.Segments.{segment_of_view}
use Rattle.load_content.proofs.Numbers.{two_near}
use Rattle.load_content.proofs.data.near_u16.Goals as goal

pub returns : goal.returns
returns c =
    let bytes = segment_bytes (segment_of_view c.args.view.now) in
    omega (arith, two_near c.args.at bytes, c.near_u8.ensures, c.near_u8-2.ensures, c.from-low.ensures, c.from-high.ensures)
