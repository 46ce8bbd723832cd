use Rattle.std.proofs.Common.{sym, ◌∙◌, rules, tests}
use Rattle.std.proofs.lemmas.Iterator.{YieldsList-from_slice}
use Rattle.std.proofs.lemmas.Iterator.Search.{all_from_yields_List}
use Rattle.orca_symbols.proofs.Fronts.{is_upper, folded_all}
use Rattle.orca_symbols.proofs.substitution.is_folded.Goals as goal

pub returns : goal.returns
returns c = λ all.
    folded_all c.args.name.now
    (sym (all_from_yields_List is_upper c.all.new.self _ c.all.result c.all.ensures.ran (YieldsList-from_slice c.args.name.now cc) (λ x b q k. search (rules, tests))) ∙ all)
