use Rattle.std.proofs.Common.{sym, ap, ◌∙◌}
use Rattle.asm_meaning.specs.Statement.{is_taken}
use Rattle.orca_object.proofs.Labelled.{no_label, no_label_some, bad_label, taken_label, free_label_is, some_name}
use Rattle.orca_object.proofs.operation.label_of.Goals as goal

pub returns-then-is_empty-clause-value : goal.returns-then-is_empty-clause-value
returns-then-is_empty-clause-value c = λ state shows. no_label state c.args.operation c.args.text.bytes.now c.no_label.result (sym c.is_empty.ensures ∙ c.if-is_empty.true) c.no_label.ensures

pub returns-then-is_empty-clause-some : goal.returns-then-is_empty-clause-some
returns-then-is_empty-clause-some c = λ needs. no_label_some c.args.operation c.no_label.result c.no_label.ensures needs

pub returns-then-not-is_name-clause-value : goal.returns-then-not-is_name-clause-value
returns-then-not-is_name-clause-value c = λ state shows. bad_label state c.args.operation c.args.text.bytes.now (sym c.is_empty.ensures ∙ c.if-is_empty.false) (sym c.is_name.ensures ∙ c.if-not-is_name.true)

pub returns-then-is_taken-clause-value : goal.returns-then-is_taken-clause-value
returns-then-is_taken-clause-value c = λ state shows. taken_label state c.args.operation c.args.text.bytes.now c.in_ok-name.name c.is_taken.result (sym c.is_empty.ensures ∙ c.if-is_empty.false) (sym c.is_name.ensures ∙ c.if-not-is_name.false)
    c.in_ok-name.ensures (c.is_taken.ensures state c.args.operation shows c.begins_segment.ensures ∙ ap (is_taken state state.segment c.args.operation) c.bytes.ensures.value) c.if-is_taken.true

pub returns-clause-value : goal.returns-clause-value
returns-clause-value c = λ state shows. free_label_is state c.args.operation c.args.text.bytes.now c.in_ok-name.name c.is_taken.result (sym c.is_empty.ensures ∙ c.if-is_empty.false) (sym c.is_name.ensures ∙ c.if-not-is_name.false)
    c.in_ok-name.ensures (c.is_taken.ensures state c.args.operation shows c.begins_segment.ensures ∙ ap (is_taken state state.segment c.args.operation) c.bytes.ensures.value) c.if-is_taken.false

pub returns-clause-some : goal.returns-clause-some
returns-clause-some c = λ needs. some_name c.args.text.bytes.now c.in_ok-name.name (sym c.is_empty.ensures ∙ c.if-is_empty.false) c.in_ok-name.ensures
