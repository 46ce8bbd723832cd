use Rattle.std.proofs.lemmas.Result.{err_from_is_err_and}
use Rattle.omf_header.specs.View.{fields}
use Rattle.omf_records.proofs.SegmentFaults.{record_segment_fault}
use Rattle.omf_records.proofs.checks.segment_at.Goals as goal

pub returns-in_err-check_records-clause-err : goal.returns-in_err-check_records-clause-err
returns-in_err-check_records-clause-err c =
    let p = err_from_is_err_and c.from_residual-in_err-check_records.result c.from_residual-in_err-check_records.ensures.1 in
    let found = c.in_err-check_records.ensures.err in
    rw (p.1, p.2)
    (record_segment_fault (fields c.in_ok-header.header) c.args.number c.args.start c.args.file.now c.records.result found.0 c.in_err-check_records.field-0.0
    c.in_ok-header.ensures.ok c.records.ensures found.1 found.2)
