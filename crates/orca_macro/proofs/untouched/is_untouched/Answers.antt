use Rattle.std.proofs.Common.{◌≤◌, ℕ, List, length, Some, refl, sym, ap, subst, ◌∙◌}
use Rattle.macro_meaning.specs.declared.statements.Statement.{Statement}
use Rattle.orca_meaning.specs.Line.{is_comment, part}
use Rattle.orca_text.specs.View.{line}
use Rattle.orca_macro.proofs.Given.{IsWrittenOut, comment_untouched, untouched, resting_untouched}
use Rattle.orca_macro.proofs.untouched.is_untouched.Goals as goal

pub returns-then-is_comment : goal.returns-then-is_comment
returns-then-is_comment c = λ _.
    comment_untouched (line c.args.of.now) c.requires.own (ap is_comment (sym c.bytes-text.ensures.value) ∙ sym c.is_comment.ensures ∙ c.if-is_comment.true)

pub returns-in-Some-Nothing : goal.returns-in-Some-Nothing
returns-in-Some-Nothing c = λ some.
    let text = c.bytes-text.ensures.value in
    let written : IsWrittenOut (line c.args.of.now) c.bytes-text.result.now = record {
      same = text;
      few = subst (λ (t : List ℕ). length t ≤ 255) (sym text) c.bytes-text.ensures.short;
      dotless = sym c.begins_dot.ensures ∙ c.if-begins_dot.false;
      plain = sym c.is_plain.ensures ∙ c.if-not-is_plain.false;
      no_macro = sym c.operation_is.ensures ∙ c.if-operation_is.false;
      own = c.requires.own;
    } in
    resting_untouched (line c.args.of.now) c.bytes-text.result.now written c.part.result.bytes.now (part c.args.of.now.text c.args.of.now.label) c.part.ensures refl
    (sym c.statement_or_anop.ensures ∙ c.in-Some-Nothing.is ∙ ap (λ (s : Statement). Some s) c.in-Some-Nothing.field-0-is) (sym c.is_labelled.ensures ∙ some)

pub returns-in-None : goal.returns-in-None
returns-in-None c = λ _.
    let text = c.bytes-text.ensures.value in
    let written : IsWrittenOut (line c.args.of.now) c.bytes-text.result.now = record {
      same = text;
      few = subst (λ (t : List ℕ). length t ≤ 255) (sym text) c.bytes-text.ensures.short;
      dotless = sym c.begins_dot.ensures ∙ c.if-begins_dot.false;
      plain = sym c.is_plain.ensures ∙ c.if-not-is_plain.false;
      no_macro = sym c.operation_is.ensures ∙ c.if-operation_is.false;
      own = c.requires.own;
    } in
    untouched (line c.args.of.now) c.bytes-text.result.now written c.part.result.bytes.now c.part.ensures (sym c.statement_or_anop.ensures ∙ c.in-None.is)
