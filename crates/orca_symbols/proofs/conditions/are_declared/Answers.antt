use Rattle.std.proofs.Common.{sym, ◌∙◌, rules, tests}
use Rattle.std.proofs.lemmas.Iterator.{YieldsList-from_slice}
use Rattle.std.proofs.lemmas.Iterator.Search.{all_from_yields_List}
use Rattle.std.proofs.lemmas.List.Folds.{list_all-map}
use Rattle.macro_meaning.specs.laws.Steps.{is_declared}
use Rattle.orca_symbols.specs.View.{values}
use Rattle.orca_text.specs.View.{term}
use Rattle.orca_symbols.proofs.conditions.are_declared.Goals as goal

pub returns : goal.returns
returns c =
    all_from_yields_List _ _ _ _ c.all.ensures.ran (YieldsList-from_slice c.args.terms.now cc) (λ x b q k. search (rules, tests))
    ∙ sym (list_all-map (is_declared (values c.args.of)) term c.args.terms.now)
