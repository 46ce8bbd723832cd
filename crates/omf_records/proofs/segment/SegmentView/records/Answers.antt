use Rattle.std.proofs.Common.{arith}
use Rattle.omf_format.specs.laws.FileLaws.{header_lies}
use Rattle.omf_header.specs.View.{fields}
use Rattle.omf_records.proofs.segment.SegmentView.records.Goals as goal

pub bytes_between-body-requires-clause-ordered : goal.bytes_between-body-requires-clause-ordered
bytes_between-body-requires-clause-ordered c =
    let lies = header_lies c.args.self.now.start (fields c.args.self.now.header) c.args.self.now.file.now c.requires.header in
    omega (arith, lies.ordered)

pub bytes_between-body-requires-clause-within : goal.bytes_between-body-requires-clause-within
bytes_between-body-requires-clause-within c =
    let lies = header_lies c.args.self.now.start (fields c.args.self.now.header) c.args.self.now.file.now c.requires.header in
    lies.within

pub overflow_cast-end-2 : goal.overflow_cast-end-2
overflow_cast-end-2 c =
    let lies = header_lies c.args.self.now.start (fields c.args.self.now.header) c.args.self.now.file.now c.requires.header in
    omega (arith, lies.within, c.requires.short)
