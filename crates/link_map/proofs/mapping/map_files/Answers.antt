use Rattle.std.proofs.Common.{inl, inr}
use Rattle.std.proofs.lemmas.Result.{err_from_is_err_and, IfOk-weaker, IfErr-weaker}
use Rattle.link_meaning.specs.EmitFaults.{OfResolving, OfEmitting}
use Rattle.link_resolve.specs.Resolved.{given_of}
use Rattle.link_map.proofs.MapLaws.{mapped_is}
use Rattle.link_map.proofs.mapping.map_files.Goals as goal

pub returns-in_err-program-clause-refused : goal.returns-in_err-program-clause-refused
returns-in_err-program-clause-refused c =
    let p = err_from_is_err_and c.from_residual.result c.from_residual.ensures.1 in
    rw (p.1, p.2) (elim c.in_err-program.ensures.refused [
      | inl memory ↦ inl memory
      | inr first ↦ inr (OfResolving first)
    ])

pub returns-clause-mapped : goal.returns-clause-mapped
returns-clause-mapped c =
    IfOk-weaker c.map_program-drawn.result _ _
    (λ line drawn. mapped_is (given_of c.args.inputs.now.items c.args.runtimes.now.items c.args.form) c.in_ok-program.program line c.in_ok-program.ensures.resolved drawn)
    c.map_program-drawn.ensures.drawn

pub returns-clause-refused : goal.returns-clause-refused
returns-clause-refused c =
    IfErr-weaker c.map_program-drawn.result _ _
    (λ fault refused. elim refused [
      | inl memory ↦ inl memory
      | inr first ↦ inr (OfEmitting c.in_ok-program.program c.in_ok-program.ensures.resolved first)
    ])
    c.map_program-drawn.ensures.refused
