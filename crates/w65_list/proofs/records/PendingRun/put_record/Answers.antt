use Rattle.std.proofs.Common.{◌≡◌, Option, None, subst, sym, ◌∙◌}
use Rattle.std.proofs.lemmas.Result.{on_ok_weaker}
use Rattle.omf_format.specs.Expression.{Expression, IsExpression, Spells}
use Rattle.omf_header.specs.View.{fields}
use Rattle.omf_records.specs.View.{view}
use Rattle.omf_records.specs.declared.record.Rec.{Rec}
use Rattle.list_meaning.specs.Listing.{Given, given_by}
use Rattle.w65_list.specs.Giving.{IsGiven, HasExpression}
use Rattle.w65_list.proofs.Gives.{equate_is, formula_is}
use Rattle.w65_list.proofs.records.PendingRun.put_record.Goals as goal

pub returns-in-Equate-clause-given : goal.returns-in-Equate-clause-given
returns-in-Equate-clause-given c =
    let f = fields c.args.header.now in
    let a = c.in-Equate in
    let expression : IsExpression f.lab_len a.expr.now = subst (λ (r : Rec). HasExpression f.lab_len (view r)) a.is c.requires.spelled in
    on_ok_weaker c.equate_record.result (λ given b all is names.
    let same = equate_is f all b a.global a.name.now a.length a.form a.private a.expr.now expression.tree c.number_in-number.result expression.spells (c.number_in-number.ensures expression.tree expression.spells) in
    subst (λ (r : Rec). IsGiven (given_by f all b (view r)) c.args.out.now c.equate_record.new.out c.equate_record.new.self) (sym a.is)
    (subst (λ (o : Option Given). IsGiven o c.args.out.now c.equate_record.new.out c.equate_record.new.self) (sym same) (given b is))) c.equate_record.ensures.given

pub returns-in-Equate-clause-refused : goal.returns-in-Equate-clause-refused
returns-in-Equate-clause-refused c =
    let f = fields c.args.header.now in
    let a = c.in-Equate in
    let expression : IsExpression f.lab_len a.expr.now = subst (λ (r : Rec). HasExpression f.lab_len (view r)) a.is c.requires.spelled in
    λ stops b all is names.
    let same = equate_is f all b a.global a.name.now a.length a.form a.private a.expr.now expression.tree c.number_in-number.result expression.spells (c.number_in-number.ensures expression.tree expression.spells) in
    subst (λ (r : Rec). given_by f all b (view r) ≡ None) (sym a.is) (same ∙ c.equate_record.ensures.refused stops b is)

pub returns-in-Formula-clause-given : goal.returns-in-Formula-clause-given
returns-in-Formula-clause-given c =
    let f = fields c.args.header.now in
    let a = c.in-Formula in
    let expression : IsExpression f.lab_len a.expr.now = subst (λ (r : Rec). HasExpression f.lab_len (view r)) a.is c.requires.spelled in
    let tree = expression.tree in
    let spelled = subst (λ (e : Expression). Spells e.lab_len e.text tree) (sym c.spelled-expr.ensures) expression.spells in
    on_ok_weaker c.formula_record.result (λ given b all is names.
    let same = formula_is f all b a.code a.count a.n a.expr.now tree expression.spells in
    subst (λ (r : Rec). IsGiven (given_by f all b (view r)) c.args.out.now c.formula_record.new.out c.formula_record.new.self) (sym a.is)
    (subst (λ (o : Option Given). IsGiven o c.args.out.now c.formula_record.new.out c.formula_record.new.self) (sym same) (given b all tree names spelled is))) c.formula_record.ensures.given

pub returns-in-Formula-clause-refused : goal.returns-in-Formula-clause-refused
returns-in-Formula-clause-refused c =
    let f = fields c.args.header.now in
    let a = c.in-Formula in
    let expression : IsExpression f.lab_len a.expr.now = subst (λ (r : Rec). HasExpression f.lab_len (view r)) a.is c.requires.spelled in
    let tree = expression.tree in
    let spelled = subst (λ (e : Expression). Spells e.lab_len e.text tree) (sym c.spelled-expr.ensures) expression.spells in
    λ stops b all is names.
    let same = formula_is f all b a.code a.count a.n a.expr.now tree expression.spells in
    subst (λ (r : Rec). given_by f all b (view r) ≡ None) (sym a.is) (same ∙ c.formula_record.ensures.refused stops b all tree names spelled is)
