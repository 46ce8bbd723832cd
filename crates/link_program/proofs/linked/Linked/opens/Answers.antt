use Rattle.std.proofs.Common.{◌≡◌, length, sym, ◌∙◌, arith}
use Rattle.omf_records.specs.Segments.{segment_of_view}
use Rattle.link_tables.specs.declared.names.Matches.TheVariants.{Nothing, One, Several}
use Rattle.link_tables.proofs.Lists.{empty, not_empty}
use Rattle.link_program.proofs.TitleLaws.{code_opens_nothing, unnamed_opens_nothing, title_opens_nothing}
use Rattle.link_program.proofs.linked.Linked.opens.Goals as goal

pub returns-then-form-ne1 : goal.returns-then-form-ne1
returns-then-form-ne1 c = λ fine list m holds of same. code_opens_nothing list m (segment_of_view c.args.segment.now) c.form.result same c.form.ensures c.if-form-ne1.true

pub returns-then-is_empty : goal.returns-then-is_empty
returns-then-is_empty c = λ fine list m holds of same.
    let none : length c.bytes-name.result.now ≡ 0 = grind (arith, c.is_empty.ensures, c.if-is_empty.true) in
    unnamed_opens_nothing list m (segment_of_view c.args.segment.now) c.form.result c.bytes-name.result.now same c.form.ensures c.if-form-ne1.false c.bytes-name.ensures.value (empty c.bytes-name.result.now none)

pub returns-in-Nothing : goal.returns-in-Nothing
returns-in-Nothing c = λ fine list m holds of same.
    let some : length c.bytes-name.result.now ≡ 0 → ⊥ = λ e. grind (arith, e, c.is_empty.ensures, c.if-is_empty.false) in
    title_opens_nothing list m (segment_of_view c.args.segment.now) c.form.result c.bytes-name.result.now c.is_private.result c.find_rivals.result same c.form.ensures c.if-form-ne1.false c.bytes-name.ensures.value (not_empty c.bytes-name.result.now some)
    c.is_private.ensures (λ e. c.find_rivals.ensures.own e list m holds of) (λ e. c.find_rivals.ensures.every e list holds) (λ n e. let clash : Nothing ≡ One n = sym c.in-Nothing.is ∙ e in cc)

pub returns-in-Several : goal.returns-in-Several
returns-in-Several c = λ fine list m holds of same.
    let some : length c.bytes-name.result.now ≡ 0 → ⊥ = λ e. grind (arith, e, c.is_empty.ensures, c.if-is_empty.false) in
    title_opens_nothing list m (segment_of_view c.args.segment.now) c.form.result c.bytes-name.result.now c.is_private.result c.find_rivals.result same c.form.ensures c.if-form-ne1.false c.bytes-name.ensures.value (not_empty c.bytes-name.result.now some)
    c.is_private.ensures (λ e. c.find_rivals.ensures.own e list m holds of) (λ e. c.find_rivals.ensures.every e list holds) (λ n e. let clash : Several c.in-Several.field-0 ≡ One n = sym c.in-Several.is ∙ e in cc)
