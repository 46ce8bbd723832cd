use Rattle.std.proofs.Common.{◌∙◌, arith}
use Rattle.std.proofs.lemmas.List.{length-set}
use Rattle.load_meaning.specs.Cells.{segment_bytes}
use Rattle.omf_records.specs.Segments.{segment_of_view}
use Rattle.load_tables.proofs.EntryNumbers.{near_more}
use Rattle.load_tables.proofs.table.entry_from.Goals as goal

pub bytes-preserved : goal.bytes-preserved
bytes-preserved c = record {
  most = omega (arith, c.bytes-test.true);
  are = near_more (segment_bytes (segment_of_view c.args.view.now)) c.args.at c.bytes.entry c.bytes.place c.near_u8.result c.bytes.invariant.are (omega (arith, c.bytes-test.true, c.bytes.invariant.size)) c.near_u8.ensures;
  size = length-set c.bytes.entry c.bytes.place c.near_u8.result ∙ c.bytes.invariant.size;
}

pub returns : goal.returns
returns c = record { near = λ n lt. c.bytes.invariant.are n (omega (arith, lt, c.bytes.invariant.size, c.bytes-test.false)); size = c.bytes.invariant.size }
