use Rattle.std.proofs.Common.{sym, subst, arith}
use Rattle.omf_c_making.specs.Making.{Lists}
use Rattle.omf_c_making.proofs.Files.{reported_makes}
use Rattle.omf_c_making.proofs.making.list_to_answer.Goals as goal

pub returns-in-Err : goal.returns-in-Err
returns-in-Err c =
    let file = c.args.file.now in
    subst (Lists file) (sym c.answer_of_fault.ensures)
    (reported_makes _ _ _ _ c.in-Err.fault c.list_fault.result _ _ (omega arith) (λ other. (c.in-Err.ensures.refused, other)) c.list_fault.ensures)
