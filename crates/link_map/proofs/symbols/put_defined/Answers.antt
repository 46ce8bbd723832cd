use Rattle.std.proofs.Common.{◌++◌, ℕ, List, ap, subst, ◌∙◌}
use Rattle.std.proofs.lemmas.Result.{on_ok_weaker}
use Rattle.omf_records.specs.View.{view}
use Rattle.link_map.specs.Listings.{scope_as}
use Rattle.link_map.specs.Standing.{HasRecord}
use Rattle.link_map.proofs.SymbolLaws.{label_line, equate_line, equate_spelled}
use Rattle.link_map.proofs.symbols.put_defined.Goals as goal

pub returns-in-Label : goal.returns-in-Label
returns-in-Label c =
    on_ok_weaker c.put_value_line.result
    (λ is m at there.
    is
    ∙ ap (λ (l : List ℕ). c.args.line.now ++ l)
    (label_line c.args.listed c.args.values.now c.args.place m at c.args.location (view c.args.rec.now) c.in-Label.global c.in-Label.name.now _ _ c.in-Label.private (scope_as c.seen_by-seen.result) c.place_in.result (ap view c.in-Label.is) c.seen_by-seen.ensures (c.place_in.ensures m there)))
    c.put_value_line.ensures

pub value_in-answer-requires-clause-spelled : goal.value_in-answer-requires-clause-spelled
value_in-answer-requires-clause-spelled c = λ m there.
    equate_spelled c.args.values.now.list c.args.place c.args.location m c.in-Equate.global c.in-Equate.name.now _ _ c.in-Equate.private c.in-Equate.expr.now
    (subst (HasRecord c.args.values.now.list c.args.place c.args.location) (ap view c.in-Equate.is) c.requires) there

pub returns-in-Equate : goal.returns-in-Equate
returns-in-Equate c =
    on_ok_weaker c.put_value_line-in-Equate.result
    (λ is m at there.
    is
    ∙ ap (λ (l : List ℕ). c.args.line.now ++ l)
    (equate_line c.args.listed c.args.values.now c.args.place m at c.args.location (view c.args.rec.now) c.in-Equate.global c.in-Equate.name.now _ _ c.in-Equate.private c.in-Equate.expr.now (scope_as c.seen_by-seen-in-Equate.result) c.value_in-answer.result (ap view c.in-Equate.is) c.seen_by-seen-in-Equate.ensures (c.value_in-answer.ensures m there)))
    c.put_value_line-in-Equate.ensures
