use Rattle.std.proofs.Common.{◌≡◌, Option, None, false, subst, sym, ◌∙◌}
use Rattle.std.specs.Prelude.{option_map}
use Rattle.std.proofs.lemmas.Result.{on_ok_weaker}
use Rattle.omf_expr.specs.View.{view}
use Rattle.list_meaning.specs.Listed.{Wanted}
use Rattle.list_meaning.specs.Listing.{Given, simple_of, split_last}
use Rattle.list_meaning.specs.laws.Steps.{are_short}
use Rattle.list_lines.specs.FormulaView.{simple_four}
use Rattle.w65_list.specs.Giving.{Gave, held_by, held_with}
use Rattle.list_lines.specs.LineView.{operand_view}
use Rattle.w65_list.proofs.Gives.{held_both, held_some, held_is, split_back, formula_beside}
use Rattle.list_lines.proofs.TermLaws.{simple_read}
use Rattle.w65_list.proofs.records.PendingRun.put_formula.Goals as goal

pub returns-in-Some-clause-gave : goal.returns-in-Some-clause-gave
returns-in-Some-clause-gave c =
    let f = c.args.formula in
    let w = operand_view c.in-Some.operand in
    let opcode = c.in-Some.opcode in
    let one = option_map view c.args.front.first in
    let two = option_map view c.args.front.second in
    let three = option_map view c.args.front.third in
    let four = option_map view c.args.front.fourth in
    on_ok_weaker c.put_held.result (λ gave b tree is spells.
    let both = held_both opcode w (held_by b f.code f.count f.n (split_last b.run)) (simple_four one two three four) (c.in-Some.ensures.value b is) in
    let h = held_some b f.code f.count f.n (split_last b.run) opcode both.0 in
    let simple = sym (simple_read c.args.expr.now tree one two three four spells c.requires.front.first c.requires.front.second c.requires.front.third c.requires.front.fourth) ∙ sym both.1 in
    subst (λ (g : Given). Gave g c.args.out.now c.put_held.new.out c.put_held.new.self) (sym (held_is b f.code f.count f.n tree opcode w (simple_of tree) h simple)) (gave b h.rest is (split_back b.run h.rest opcode h.is))) c.put_held.ensures.gave

pub returns-in-Some-clause-long : goal.returns-in-Some-clause-long
returns-in-Some-clause-long c =
    let f = c.args.formula in
    let w = operand_view c.in-Some.operand in
    let opcode = c.in-Some.opcode in
    let one = option_map view c.args.front.first in
    let two = option_map view c.args.front.second in
    let three = option_map view c.args.front.third in
    let four = option_map view c.args.front.fourth in
    λ stops b tree is spells.
    let both = held_both opcode w (held_by b f.code f.count f.n (split_last b.run)) (simple_four one two three four) (c.in-Some.ensures.value b is) in
    let h = held_some b f.code f.count f.n (split_last b.run) opcode both.0 in
    let simple = sym (simple_read c.args.expr.now tree one two three four spells c.requires.front.first c.requires.front.second c.requires.front.third c.requires.front.fourth) ∙ sym both.1 in
    subst (λ (g : Given). are_short g ≡ false) (sym (held_is b f.code f.count f.n tree opcode w (simple_of tree) h simple)) (c.put_held.ensures.long stops b h.rest is (split_back b.run h.rest opcode h.is))

pub returns-in-None-clause-gave : goal.returns-in-None-clause-gave
returns-in-None-clause-gave c =
    let f = c.args.formula in
    let one = option_map view c.args.front.first in
    let two = option_map view c.args.front.second in
    let three = option_map view c.args.front.third in
    let four = option_map view c.args.front.fourth in
    on_ok_weaker c.put_beside.result (λ gave b tree is spells.
    let simple = simple_read c.args.expr.now tree one two three four spells c.requires.front.first c.requires.front.second c.requires.front.third c.requires.front.fourth in
    let none = subst (λ (o : Option Wanted). None ≡ held_with (held_by b f.code f.count f.n (split_last b.run)) o) simple (c.in-None.ensures.value b is) in
    subst (λ (g : Given). Gave g c.args.out.now c.put_beside.new.out c.put_beside.new.self) (sym (formula_beside b f.code f.count f.n tree (split_last b.run) (simple_of tree) none)) (gave b tree is spells)) c.put_beside.ensures.gave

pub returns-in-None-clause-long : goal.returns-in-None-clause-long
returns-in-None-clause-long c =
    let f = c.args.formula in
    let one = option_map view c.args.front.first in
    let two = option_map view c.args.front.second in
    let three = option_map view c.args.front.third in
    let four = option_map view c.args.front.fourth in
    λ stops b tree is spells.
    let simple = simple_read c.args.expr.now tree one two three four spells c.requires.front.first c.requires.front.second c.requires.front.third c.requires.front.fourth in
    let none = subst (λ (o : Option Wanted). None ≡ held_with (held_by b f.code f.count f.n (split_last b.run)) o) simple (c.in-None.ensures.value b is) in
    subst (λ (g : Given). are_short g ≡ false) (sym (formula_beside b f.code f.count f.n tree (split_last b.run) (simple_of tree) none)) (c.put_beside.ensures.long stops b tree is spells)
