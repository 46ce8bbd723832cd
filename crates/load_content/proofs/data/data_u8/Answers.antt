use Rattle.std.proofs.Common.{arith}
use Rattle.load_meaning.specs.Cells.{segment_bytes}
use Rattle.omf_records.specs.Segments.{segment_of_view}
use Rattle.load_content.proofs.Numbers.{byte_there}
use Rattle.load_content.proofs.PieceLists.{rising}
use Rattle.load_content.proofs.data.data_u8.Goals as goal

pub byte_at-requires : goal.byte_at-requires
byte_at-requires c = rising c.args.pieces.now (segment_bytes (segment_of_view c.args.view.now)) c.requires.pieces.are

pub returns : goal.returns
returns c =
    let bytes = segment_bytes (segment_of_view c.args.view.now) in
    byte_there c.args.at _ bytes (c.byte_at.ensures bytes c.requires.pieces.are (omega (arith, c.requires.inside, c.requires.pieces.sized)))
