use Rattle.std.proofs.Common.{◌≡◌, Bool, true, false, refl, sym, ap, ◌∙◌}
use Rattle.std.specs.Prelude.{◌&&◌, option_map}
use Rattle.omf_expr.specs.View.{view}
use Rattle.list_meaning.specs.Listing.{is_open, term_listable, term_may_stand}
use Rattle.list_lines.specs.FormulaView.{simple_four, weak_two}
use Rattle.w65_list.proofs.Gives.{listable_same}
use Rattle.list_lines.proofs.TermLaws.{all_are, any_is, weak_read, simple_read}
use Rattle.w65_list.proofs.records.is_formula_listable.Goals as goal

pub returns-then-known : goal.returns-then-known
returns-then-known c =
    λ b all tree run names spells.
    let e = c.args.expr.now in
    let f = c.args.formula in
    let known = c.facts_of-known.result in
    let one = option_map view c.args.front.first in
    let two = option_map view c.args.front.second in
    let three = option_map view c.args.front.third in
    let four = option_map view c.args.front.fourth in
    sym (ap (λ (x : Bool). x && c.is_listable_by_kind.result) c.if-known.true)
    ∙ ap (λ (x : Bool). known.named && x) c.is_listable_by_kind.ensures
    ∙ listable_same all b f.code f.count f.n tree known.named known.written known.varies (weak_two one two) (simple_four one two three four) c.args.run.now
    (c.facts_of-known.ensures.named all names ∙ all_are (term_listable all) e.lab_len e.text tree spells) (c.facts_of-known.ensures.written ∙ all_are term_may_stand e.lab_len e.text tree spells)
    (c.facts_of-known.ensures.varies ∙ any_is is_open e.lab_len e.text tree spells) (weak_read e tree one two spells c.requires.first c.requires.second)
    (simple_read e tree one two three four spells c.requires.first c.requires.second c.requires.third c.requires.fourth) (sym run)

pub returns-else-known : goal.returns-else-known
returns-else-known c =
    λ b all tree run names spells.
    let e = c.args.expr.now in
    let f = c.args.formula in
    let known = c.facts_of-known.result in
    let one = option_map view c.args.front.first in
    let two = option_map view c.args.front.second in
    let three = option_map view c.args.front.third in
    let four = option_map view c.args.front.fourth in
    fails _ known.named c.if-known.false
    ∙ listable_same all b f.code f.count f.n tree known.named known.written known.varies (weak_two one two) (simple_four one two three four) c.args.run.now
    (c.facts_of-known.ensures.named all names ∙ all_are (term_listable all) e.lab_len e.text tree spells) (c.facts_of-known.ensures.written ∙ all_are term_may_stand e.lab_len e.text tree spells)
    (c.facts_of-known.ensures.varies ∙ any_is is_open e.lab_len e.text tree spells) (weak_read e tree one two spells c.requires.first c.requires.second)
    (simple_read e tree one two three four spells c.requires.first c.requires.second c.requires.third c.requires.fourth) (sym run)
  where
    fails : (other named : Bool) → named ≡ false → named ≡ (named && other)
    fails other true e = absurd cc
    fails other false e = refl
