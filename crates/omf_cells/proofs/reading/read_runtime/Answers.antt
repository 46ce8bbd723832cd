use Rattle.std.proofs.Common.{sym, ◌∙◌}
use Rattle.std.proofs.lemmas.Result.{err_from_is_err_and}
use Rattle.load_meaning.specs.Runtime.{OfLoading, OfKind}
use Rattle.load_content.proofs.NamedFaults.{unless, unless_then}
use Rattle.omf_cells.proofs.reading.read_runtime.Goals as goal

pub returns-in_err-load-clause-refused : goal.returns-in_err-load-clause-refused
returns-in_err-load-clause-refused c =
    let p = err_from_is_err_and c.from_residual.result c.from_residual.ensures.1 in
    let fault = c.in_err-load.field-0.0 in
    rw (p.1, p.2) (unless_then fault.cause fault _ _ (λ first. OfLoading first) c.in_err-load.ensures.refused)

pub returns-in-Some-clause-refused : goal.returns-in-Some-clause-refused
returns-in-Some-clause-refused c =
    let fault = c.in-Some.fault in
    unless fault.cause fault _ c.in-Some.ensures.named (OfKind c.in_ok-load.load c.in_ok-load.ensures.ok (sym c.kind_fault.ensures.value ∙ c.in-Some.is))
