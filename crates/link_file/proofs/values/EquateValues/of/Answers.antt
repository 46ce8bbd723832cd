use Rattle.std.proofs.lemmas.Result.{err_from_is_err_and}
use Rattle.link_file.proofs.EmitLaws.{refused_cycle}
use Rattle.link_file.proofs.values.EquateValues.of.Goals as goal

pub returns-in_err-slots-clause-refused : goal.returns-in_err-slots-clause-refused
returns-in_err-slots-clause-refused c =
    let p = err_from_is_err_and c.from_residual.result c.from_residual.ensures.1 in
    rw (p.1, p.2) (refused_cycle c.args.program.now c.in_err-slots.field-0.0 c.in_err-slots.ensures.refused)
