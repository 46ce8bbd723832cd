use Rattle.std.proofs.Common.{List, ℕ, sym, subst}
use Rattle.omf_c_making.specs.Making.{Expands, contents}
use Rattle.macro_meaning.specs.Expansion.{IsMacroFault}
use Rattle.omf_c_making.proofs.Faults.{macro_first}
use Rattle.omf_c_making.proofs.Files.{reported_makes}
use Rattle.omf_c_making.proofs.making.expand_to_answer.Goals as goal

pub returns : goal.returns
returns c =
    let source = c.args.source.now in
    let macros = contents c.args.macros.now in
    let refused : IsMacroFault source macros c.in-Err.fault = subst (λ (m : List (List ℕ)). IsMacroFault source m c.in-Err.fault) c.in-Ok.ensures c.in-Err.ensures.refused in
    subst (Expands source macros) (sym c.answer_of_fault.ensures)
    (reported_makes _ _ _ _ c.in-Err.fault c.macro_fault.result _ _ tt (λ other. macro_first source macros c.in-Err.fault other refused) c.macro_fault.ensures)
