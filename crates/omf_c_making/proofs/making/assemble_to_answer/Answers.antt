use Rattle.std.proofs.Common.{List, ℕ, sym, subst}
use Rattle.omf_c_making.specs.Making.{Assembles, contents}
use Rattle.source_meaning.specs.Object.{IsAsmFault}
use Rattle.omf_c_making.proofs.Faults.{asm_first}
use Rattle.omf_c_making.proofs.Files.{reported_makes}
use Rattle.omf_c_making.proofs.making.assemble_to_answer.Goals as goal

pub returns : goal.returns
returns c =
    let source = c.args.source.now in
    let macros = contents c.args.macros.now in
    let refused : IsAsmFault source macros c.in-Err.fault = subst (λ (m : List (List ℕ)). IsAsmFault source m c.in-Err.fault) c.in-Ok.ensures c.in-Err.ensures.refused in
    subst (Assembles source macros) (sym c.answer_of_fault.ensures)
    (reported_makes _ _ _ _ c.in-Err.fault c.asm_fault.result _ _ tt (λ other. asm_first source macros c.in-Err.fault other refused) c.asm_fault.ensures)
