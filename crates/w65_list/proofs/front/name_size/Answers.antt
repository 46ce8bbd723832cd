use Rattle.std.proofs.Common.{ℕ, length, sym, ◌∙◌, rules, tests}
use Rattle.std.specs.Prelude.{◌==◌}
use Rattle.std.specs.List.{position_or_len}
use Rattle.std.proofs.lemmas.Iterator.{YieldsList-from_slice}
use Rattle.std.proofs.lemmas.Iterator.Search.{position_from_yields_List}
use Rattle.w65_list.proofs.FrontLaws.{some_place, none_place}
use Rattle.w65_list.proofs.front.name_size.Goals as goal

pub returns-in-Some : goal.returns-in-Some
returns-in-Some c =
    let text = c.args.text.now in
    let found = position_from_yields_List (λ (x : ℕ). x == 0x20) _ _ c.position.result c.position.ensures.ran (YieldsList-from_slice text cc) (λ x b q k. search (rules, tests)) in
    some_place (position_or_len (λ (x : ℕ). x == 0x20) text) (length text) c.in-Some.at (sym c.in-Some.is ∙ found)

pub returns-in-None : goal.returns-in-None
returns-in-None c =
    let text = c.args.text.now in
    let found = position_from_yields_List (λ (x : ℕ). x == 0x20) _ _ c.position.result c.position.ensures.ran (YieldsList-from_slice text cc) (λ x b q k. search (rules, tests)) in
    none_place (λ (x : ℕ). x == 0x20) text (sym c.in-None.is ∙ found)
