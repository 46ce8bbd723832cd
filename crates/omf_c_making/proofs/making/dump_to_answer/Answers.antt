use Rattle.std.proofs.Common.{sym, subst, arith}
use Rattle.omf_c_making.specs.Making.{Dumps}
use Rattle.omf_c_making.proofs.Faults.{file_first}
use Rattle.omf_c_making.proofs.Files.{reported_makes}
use Rattle.omf_c_making.proofs.making.dump_to_answer.Goals as goal

pub returns-in-Err : goal.returns-in-Err
returns-in-Err c =
    let file = c.args.file.now in
    subst (Dumps file) (sym c.answer_of_fault.ensures)
    (reported_makes _ _ _ _ c.in-Err.fault c.file_fault.result _ _ (omega arith) (λ other. file_first c.in-Err.fault file other c.in-Err.ensures.refused) c.file_fault.ensures)
