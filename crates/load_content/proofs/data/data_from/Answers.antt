use Rattle.std.proofs.Common.{◌+◌}
use Rattle.load_meaning.specs.Cells.{segment_bytes}
use Rattle.omf_records.specs.Segments.{segment_of_view}
use Rattle.load_content.proofs.Numbers.{byte_there}
use Rattle.load_content.proofs.PieceLists.{rising}
use Rattle.load_content.proofs.data.data_from.Goals as goal

pub bytes_from-requires : goal.bytes_from-requires
bytes_from-requires c = rising c.args.pieces.now (segment_bytes (segment_of_view c.args.view.now)) c.requires.are

pub returns : goal.returns
returns c = λ n lt. byte_there (c.args.at + n) _ (segment_bytes (segment_of_view c.args.view.now)) (c.bytes_from.ensures (segment_bytes (segment_of_view c.args.view.now)) n c.requires.are lt)
