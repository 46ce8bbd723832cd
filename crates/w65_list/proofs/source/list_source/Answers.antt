use Rattle.std.proofs.lemmas.Result.{err_from_is_err_and}
use Rattle.w65_list.proofs.SourceLaws.{file_refused, segment_refused, file_listed, file_too_long}
use Rattle.w65_list.proofs.source.list_source.Goals as goal

pub returns-in-Err-clause-refused : goal.returns-in-Err-clause-refused
returns-in-Err-clause-refused c = file_refused c.args.file.now c.in-Err.fault c.file_fault.result c.in-Err.ensures.refused c.file_fault.ensures

pub returns-in_err-out-clause-refused : goal.returns-in_err-out-clause-refused
returns-in_err-out-clause-refused c =
    let p = err_from_is_err_and c.from_residual.result c.from_residual.ensures.1 in
    rw (p.1, p.2) (segment_refused c.args.file.now c.in-Ok.list c.in_err-out.field-0.0 c.in-Ok.ensures.found c.in_err-out.ensures.refused)

pub returns-in-Some-clause-listed : goal.returns-in-Some-clause-listed
returns-in-Some-clause-listed c = file_listed c.args.file.now c.in-Ok.list c.in_ok-out.out c.in-Some.text.items c.in-Ok.ensures.found c.in_ok-out.ensures.wrote c.in-Some.ensures

pub returns-clause-refused : goal.returns-clause-refused
returns-clause-refused c = file_too_long c.args.file.now c.in-Ok.list c.in_ok-out.out c.in-Ok.ensures.found c.in_ok-out.ensures.wrote c.in-None.ensures
