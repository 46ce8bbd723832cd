use Rattle.std.proofs.Common.{ℕ, List, sym, subst, arith}
use Rattle.omf_format.specs.Expression.{Term, terms_in}
use Rattle.omf_expr.specs.View.{view}
use Rattle.list_lines.specs.declared.formula.FormulaPart.{FormulaPart}
use Rattle.list_lines.specs.FormulaView.{terms_alone, AreParts}
use Rattle.list_lines.proofs.TermLaws.{no_term}
use Rattle.list_lines.proofs.PartLaws.{parts_begin, parts_on, parts_end, parts_left}
use Rattle.list_lines.proofs.formula.text_of.Goals as goal

pub terms-init : goal.terms-init
terms-init c =
    let e = c.args.expr.now in
    let all = terms_alone (terms_in e.lab_len 0 e.text) in
    subst (λ (ps : List (ℕ × Term)). AreParts all (terms_alone ps) c.new-parts.result.items) (sym c.terms-terms.ensures.bytes)
    (subst (λ (parts : List FormulaPart). AreParts all all parts) (sym c.new-parts.ensures.items) (parts_begin e.lab_len e.text c.requires))

pub terms-preserved : goal.terms-preserved
terms-preserved c =
    let e = c.args.expr.now in
    parts_on (terms_alone (terms_in e.lab_len 0 e.text)) c.terms.terms c.next.new.self c.in-Some.field-0-0 (view c.in-Some.term) c.terms.parts.items c.part_of.new.parts.items c.add.new.parts.items c.in_ok-part-in-Some.part
    c.terms.invariant c.in-Some.ensures.answer c.in-Some.ensures.after c.in_ok-part-in-Some.ensures c.in_ok-add-in-Some.ensures

pub unreachable-requires : goal.unreachable-requires
unreachable-requires c =
    let e = c.args.expr.now in
    let some = parts_left (terms_alone (terms_in e.lab_len 0 e.text)) c.terms.terms c.terms.parts.items c.terms.invariant (no_term c.terms.terms c.in-None.ensures.answer) in
    omega (arith, some, c.in-None-pop.ensures.cases.0, c.terms.parts.ok.0)

pub returns : goal.returns
returns c =
    let e = c.args.expr.now in
    parts_end e.lab_len e.text c.terms.terms c.terms.parts.items c.pop.new.self.items c.in-Some-pop.part c.terms.invariant (no_term c.terms.terms c.in-None.ensures.answer) c.in-Some-pop.ensures.items
