use Rattle.std.proofs.Common.{Some, None, sym, ap, ◌∙◌}
use Rattle.omf_expr.specs.View.{view}
use Rattle.omf_format.specs.declared.value.ValueFault.TheVariants.{Unknown}
use Rattle.omf_expr.specs.declared.term.Term as declared
use Rattle.omf_format.specs.Expression.{Operator, Location, Constant, Named, Offset}
use Rattle.link_program.specs.Outside.{all_found}
use Rattle.link_program.specs.Finding.{found_in}
use Rattle.link_values.specs.Slots.{rows_of}
use Rattle.link_values.proofs.ValueLaws.{asked_fault, named_fault, other_fault}
use Rattle.link_values.proofs.value.fault_at.Goals as goal

pub returns-then-code-le131 : goal.returns-then-code-le131
returns-then-code-le131 c = λ m tree there spells.
    let list = c.args.program.now in
    let rows = rows_of (all_found list) c.args.slots.now in
    let name = c.in-Some-Named.name.now in
    c.fault_of.ensures list (all_found list) (found_in list c.args.place name) c.requires.once c.requires.are c.find.ensures
    ∙ named_fault list rows c.args.place c.in-Some-Named.code m name (Unknown c.args.at) there c.if-code-le131.true
    ∙ asked_fault list rows c.args.place m (Unknown c.args.at) c.args.expr.now.lab_len c.args.at c.args.expr.now.text tree (Some (Named c.in-Some-Named.code name)) spells (ap (λ (t : declared.Term). Some (view t)) (sym c.in-Some-Named.field-0-is) ∙ c.in-Some-Named.ensures)

pub returns-else-code-le131 : goal.returns-else-code-le131
returns-else-code-le131 c = λ m tree there spells.
    let list = c.args.program.now in
    let rows = rows_of (all_found list) c.args.slots.now in
    let name = c.in-Some-Named.name.now in
    other_fault list rows c.args.place c.in-Some-Named.code m name (Unknown c.args.at) c.if-code-le131.false
    ∙ asked_fault list rows c.args.place m (Unknown c.args.at) c.args.expr.now.lab_len c.args.at c.args.expr.now.text tree (Some (Named c.in-Some-Named.code name)) spells (ap (λ (t : declared.Term). Some (view t)) (sym c.in-Some-Named.field-0-is) ∙ c.in-Some-Named.ensures)

pub returns-in-Some-Operator : goal.returns-in-Some-Operator
returns-in-Some-Operator c = λ m tree there spells.
    asked_fault c.args.program.now (rows_of (all_found c.args.program.now) c.args.slots.now) c.args.place m (Unknown c.args.at) c.args.expr.now.lab_len c.args.at c.args.expr.now.text tree (Some (Operator c.in-Some-Operator.field-0-0)) spells (ap (λ (t : declared.Term). Some (view t)) (sym c.in-Some-Operator.field-0-is) ∙ c.in-Some-Operator.ensures)

pub returns-in-Some-Location : goal.returns-in-Some-Location
returns-in-Some-Location c = λ m tree there spells.
    asked_fault c.args.program.now (rows_of (all_found c.args.program.now) c.args.slots.now) c.args.place m (Unknown c.args.at) c.args.expr.now.lab_len c.args.at c.args.expr.now.text tree (Some Location) spells (ap (λ (t : declared.Term). Some (view t)) (sym c.in-Some-Location.field-0-is) ∙ c.in-Some-Location.ensures)

pub returns-in-Some-Constant : goal.returns-in-Some-Constant
returns-in-Some-Constant c = λ m tree there spells.
    asked_fault c.args.program.now (rows_of (all_found c.args.program.now) c.args.slots.now) c.args.place m (Unknown c.args.at) c.args.expr.now.lab_len c.args.at c.args.expr.now.text tree (Some (Constant c.in-Some-Constant.field-0-0)) spells (ap (λ (t : declared.Term). Some (view t)) (sym c.in-Some-Constant.field-0-is) ∙ c.in-Some-Constant.ensures)

pub returns-in-Some-Offset : goal.returns-in-Some-Offset
returns-in-Some-Offset c = λ m tree there spells.
    asked_fault c.args.program.now (rows_of (all_found c.args.program.now) c.args.slots.now) c.args.place m (Unknown c.args.at) c.args.expr.now.lab_len c.args.at c.args.expr.now.text tree (Some (Offset c.in-Some-Offset.field-0-0)) spells (ap (λ (t : declared.Term). Some (view t)) (sym c.in-Some-Offset.field-0-is) ∙ c.in-Some-Offset.ensures)

pub returns-in-None : goal.returns-in-None
returns-in-None c = λ m tree there spells.
    asked_fault c.args.program.now (rows_of (all_found c.args.program.now) c.args.slots.now) c.args.place m (Unknown c.args.at) c.args.expr.now.lab_len c.args.at c.args.expr.now.text tree None spells c.in-None.ensures
