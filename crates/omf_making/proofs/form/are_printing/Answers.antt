use Rattle.std.proofs.Common.{◌∙◌, sym, rules, tests}
use Rattle.omf_making.specs.Steps.{is_printing}
use Rattle.std.specs.Prelude.{string_bytes}
use Rattle.std.proofs.lemmas.Iterator.{YieldsList-from_slice}
use Rattle.std.proofs.lemmas.Iterator.Search.{all_from_yields_List}
use Rattle.std.proofs.lemmas.List.Folds.{list_all-map}
use Rattle.omf_making.proofs.form.are_printing.Goals as goal

pub returns : goal.returns
returns c =
    all_from_yields_List (λ word. is_printing (string_bytes word)) _ _ _ c.all.ensures.ran (YieldsList-from_slice c.args.words.now cc) (λ x b q k. search (rules, tests))
    ∙ sym (list_all-map is_printing string_bytes c.args.words.now)
