use Rattle.std.proofs.Common.{refl}
use Rattle.std.proofs.lemmas.Result.{err_from_is_err_and}
use Rattle.omf_format.specs.laws.ExpressionLaws.{read-all-fault}
use Rattle.omf_expr.proofs.Front.{are_bytes, begins, front_is, none_begins, field_is, flaw_is}
use Rattle.omf_expr.proofs.expr.Expr.of.Goals as goal

pub invariant_of-result : goal.invariant_of-result
invariant_of-result c = (begins c.args.lab_len c.args.bytes.now c.in_ok-rest.rest.now (are_bytes c.args.bytes.now c.type_inv.bytes) c.in_ok-rest.ensures.gives).expression

pub returns-clause-found : goal.returns-clause-found
returns-clause-found c = begins c.args.lab_len c.args.bytes.now c.in_ok-rest.rest.now (are_bytes c.args.bytes.now c.type_inv.bytes) c.in_ok-rest.ensures.gives

pub returns-clause-only : goal.returns-clause-only
returns-clause-only c = λ text b. let same = front_is c.args.lab_len c.args.bytes.now c.in_ok-rest.rest.now text c.in_ok-rest.ensures.gives b in rw same refl

pub returns-clause-field : goal.returns-clause-field
returns-clause-field c = field_is c.args.lab_len c.args.bytes.now c.in_ok-rest.rest.now (are_bytes c.args.bytes.now c.type_inv.bytes) c.in_ok-rest.ensures.gives

pub returns-in_err-rest-clause-only : goal.returns-in_err-rest-clause-only
returns-in_err-rest-clause-only c =
    λ text b. absurd (none_begins c.args.lab_len c.args.bytes.now text c.in_err-rest.field-0.0 c.in_err-rest.ensures.gives b)

pub returns-in_err-rest-clause-fault : goal.returns-in_err-rest-clause-fault
returns-in_err-rest-clause-fault c =
    let p = err_from_is_err_and c.from_residual.result c.from_residual.ensures.1 in
    rw (p.1, p.2) (read-all-fault c.args.lab_len c.args.bytes.now c.in_err-rest.field-0.0 (are_bytes c.args.bytes.now c.type_inv.bytes) c.in_err-rest.ensures.gives)

pub returns-in_err-rest-clause-field : goal.returns-in_err-rest-clause-field
returns-in_err-rest-clause-field c =
    let p = err_from_is_err_and c.from_residual.result c.from_residual.ensures.1 in
    rw (p.1, p.2) (flaw_is c.args.lab_len c.args.bytes.now c.in_err-rest.field-0.0 c.in_err-rest.ensures.gives)
