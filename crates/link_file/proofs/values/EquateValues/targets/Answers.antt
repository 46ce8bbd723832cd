use Rattle.std.proofs.Common.{◌≡◌, List, sym, subst}
use Rattle.std.specs.Prelude.{IfOk, IfErr}
use Rattle.link_meaning.specs.LinkedCells.{targets}
use Rattle.link_program.specs.Outside.{all_found}
use Rattle.link_values.specs.declared.slots.ValueSlot.{ValueSlot}
use Rattle.link_file.specs.Answers.{IsEmitRefused}
use Rattle.link_values.specs.Equates.{AreValues}
use Rattle.link_values.specs.Slots.{rows_of}
use Rattle.link_file.specs.Valued.{Valued}
use Rattle.link_file.proofs.values.EquateValues.targets.Goals as goal

pub calls_of-requires : goal.calls_of-requires
calls_of-requires c = subst (AreValues c.self.inside.program.now) (sym c.as_slice.ensures.value) c.self.invariant

pub returns-clause-made : goal.returns-clause-made
returns-clause-made c =
    let list = c.self.inside.program.now in
    subst (λ (v : Valued). IfOk c.calls_of.result (λ table. table ≡ targets v.list v.table)) c.self.view_is
    (subst (λ (slots : List ValueSlot). IfOk c.calls_of.result (λ table. table ≡ targets list (rows_of (all_found list) slots))) c.as_slice.ensures.value c.calls_of.ensures.made)

pub returns-clause-refused : goal.returns-clause-refused
returns-clause-refused c = subst (λ (v : Valued). IfErr c.calls_of.result (λ fault. IsEmitRefused v.list fault)) c.self.view_is c.calls_of.ensures.refused
