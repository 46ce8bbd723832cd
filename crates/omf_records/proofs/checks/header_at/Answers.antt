use Rattle.omf_records.proofs.SegmentFaults.{has_place, segment_fault}
use Rattle.omf_records.proofs.checks.header_at.Goals as goal

pub to_file_header_fault-requires : goal.to_file_header_fault-requires
to_file_header_fault-requires c =
    has_place c.in-Err.fault c.args.start c.bytes_from-bytes.result.now c.args.file.now c.bytes_from-bytes.ensures.value c.requires.inside c.requires.short c.in-Err.ensures.refused

pub returns-in-Err-clause-err : goal.returns-in-Err-clause-err
returns-in-Err-clause-err c =
    let reported = rw c.to_file_header_fault.ensures at c.in_segment.ensures in
    segment_fault c.in-Err.fault c.args.number c.args.start c.bytes_from-bytes.result.now c.args.file.now c.in_segment.result c.bytes_from-bytes.ensures.value c.in-Err.ensures.refused reported
