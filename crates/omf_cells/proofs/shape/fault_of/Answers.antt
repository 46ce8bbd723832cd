use Rattle.std.proofs.Common.{◌≡◌, false, true, eqb, length, refl, sym, ◌∙◌}
use Rattle.std.specs.Prelude.{nat_lt}
use Rattle.std.proofs.lemmas.Bool.{ne_eqb, eq-eqb}
use Rattle.load_content.specs.Walk.{content}
use Rattle.load_content.proofs.LoadViews.{shape_fault-of}
use Rattle.omf_cells.proofs.shape.fault_of.Goals as goal

pub returns-then-from-number-clause-value : goal.returns-then-from-number-clause-value
returns-then-from-number-clause-value c =
    let v = c.args.view.now in
    let other : eqb v.header.seg_num c.args.number ≡ false = ne_eqb v.header.seg_num c.args.number (λ e. c.if-from-number.true (c.from.ensures ∙ e)) in
    rw (shape_fault-of c.args.number v _ refl, other) refl

pub returns-then-is_longer-clause-value : goal.returns-then-is_longer-clause-value
returns-then-is_longer-clause-value c =
    let v = c.args.view.now in
    let same : eqb v.header.seg_num c.args.number ≡ true = eq-eqb v.header.seg_num c.args.number (sym c.from.ensures ∙ c.if-from-number.false) in
    let long : nat_lt v.header.length (length (content c.records.result)) ≡ true = sym c.is_longer.ensures ∙ c.if-is_longer.true in
    rw (shape_fault-of c.args.number v c.records.result c.records.ensures, same, long) refl

pub returns-clause-value : goal.returns-clause-value
returns-clause-value c =
    let v = c.args.view.now in
    let same : eqb v.header.seg_num c.args.number ≡ true = eq-eqb v.header.seg_num c.args.number (sym c.from.ensures ∙ c.if-from-number.false) in
    let short : nat_lt v.header.length (length (content c.records.result)) ≡ false = sym c.is_longer.ensures ∙ c.if-is_longer.false in
    rw (shape_fault-of c.args.number v c.records.result c.records.ensures, same, short) refl
