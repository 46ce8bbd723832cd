use Rattle.std.proofs.Common.{◌≡◌, ℕ, List, take, Option, false, subst, ap, ◌∙◌}
use Rattle.std.specs.Prelude.{option_map}
use Rattle.std.proofs.lemmas.Result.{on_ok_weaker}
use Rattle.omf_expr.specs.View.{view}
use Rattle.object_meaning.specs.laws.TreeInLaws.{tree_in-again}
use Rattle.list_meaning.specs.Listed.{FormulaIs}
use Rattle.list_meaning.specs.Listing.{dc_of_formula, is_short}
use Rattle.list_lines.specs.LineView.{Wrote}
use Rattle.list_lines.proofs.TermLaws.{weak_read}
use Rattle.w65_list.proofs.records.put_apart.Goals as goal

pub returns-in-Some-clause-wrote : goal.returns-in-Some-clause-wrote
returns-in-Some-clause-wrote c =
    let one = option_map view c.args.front.first in
    let two = option_map view c.args.front.second in
    on_ok_weaker c.put_dc_weak.result (λ wrote tree spells. subst (λ (o : Option (List ℕ)). Wrote (dc_of_formula c.args.count tree o) c.args.out.now c.put_dc_weak.new.out)
    (c.in-Some.ensures ∙ weak_read c.args.expr.now tree one two spells c.requires.front.first c.requires.front.second) wrote) c.put_dc_weak.ensures.wrote

pub returns-in-Some-clause-long : goal.returns-in-Some-clause-long
returns-in-Some-clause-long c =
    let one = option_map view c.args.front.first in
    let two = option_map view c.args.front.second in
    λ stops tree spells. subst (λ (o : Option (List ℕ)). is_short (dc_of_formula c.args.count tree o) ≡ false)
    (c.in-Some.ensures ∙ weak_read c.args.expr.now tree one two spells c.requires.front.first c.requires.front.second) (c.put_dc_weak.ensures.long stops)

pub returns-in_ok-formula-in-None-clause-wrote : goal.returns-in_ok-formula-in-None-clause-wrote
returns-in_ok-formula-in-None-clause-wrote c =
    let e = c.args.expr.now in
    let one = option_map view c.args.front.first in
    let two = option_map view c.args.front.second in
    on_ok_weaker c.put_dc_formula.result (λ wrote tree spells. subst (λ (o : Option (List ℕ)). Wrote (dc_of_formula c.args.count tree o) c.args.out.now c.put_dc_formula.new.out)
    (c.in-None.ensures ∙ weak_read e tree one two spells c.requires.front.first c.requires.front.second)
    (subst (λ (k : ℕ). Wrote (FormulaIs k tree) c.args.out.now c.put_dc_formula.new.out) c.from.ensures
    (wrote tree (c.first_bytes.ensures ∙ ap (take 256) c.bytes.ensures ∙ c.in_ok-formula-in-None.ensures tree (tree_in-again e.lab_len e.text tree spells))))) c.put_dc_formula.ensures.wrote

pub returns-in_ok-formula-in-None-clause-long : goal.returns-in_ok-formula-in-None-clause-long
returns-in_ok-formula-in-None-clause-long c =
    let e = c.args.expr.now in
    let one = option_map view c.args.front.first in
    let two = option_map view c.args.front.second in
    λ stops tree spells. subst (λ (o : Option (List ℕ)). is_short (dc_of_formula c.args.count tree o) ≡ false)
    (c.in-None.ensures ∙ weak_read e tree one two spells c.requires.front.first c.requires.front.second)
    (subst (λ (k : ℕ). is_short (FormulaIs k tree) ≡ false) c.from.ensures
    (c.put_dc_formula.ensures.long stops tree (c.first_bytes.ensures ∙ ap (take 256) c.bytes.ensures ∙ c.in_ok-formula-in-None.ensures tree (tree_in-again e.lab_len e.text tree spells))))
