use Rattle.std.proofs.lemmas.Result.{err_from_is_err_and}
use Rattle.omf_header.specs.View.{fields}
use Rattle.load_content.proofs.NamedFaults.{unless}
use Rattle.omf_cells.proofs.FrontFaults.{of_body}
use Rattle.omf_cells.proofs.reading.segment_from.Goals as goal

pub returns-in_err-check_records-clause-err : goal.returns-in_err-check_records-clause-err
returns-in_err-check_records-clause-err c =
    let p = err_from_is_err_and c.from_residual-in_err-check_records.result c.from_residual-in_err-check_records.ensures.1 in
    let fault = c.in_err-check_records.field-0.0 in
    let header = c.in_ok-header.ensures.ok in
    let has = of_body c.args.start (fields c.in_ok-header.header) c.args.file.now c.records.result (fault.cause, fault.at) header.header header.front c.records.ensures c.in_err-check_records.ensures.fault in
    rw (p.1, p.2) (unless fault.cause fault _ c.in_err-check_records.ensures.named (c.in_err-check_records.ensures.number, has))
