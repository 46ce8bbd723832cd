use Rattle.std.proofs.Common.{◌≡◌, ◌≤◌, ◌∙◌, ℕ, sym, subst, rules, tests, length, List, String}
use Rattle.std.specs.Prelude.{string_bytes}
use Rattle.std.specs.declared.alloc.Global.{Global}
use Rattle.std.specs.List.{list_all}
use Rattle.std.proofs.lemmas.Bool.{le-leb}
use Rattle.std.proofs.lemmas.List.{length-map}
use Rattle.std.proofs.lemmas.Iterator.{YieldsList-from_slice}
use Rattle.std.proofs.lemmas.Iterator.Search.{all_from_yields_List}
use Rattle.std.proofs.lemmas.List.Folds.{list_all-map}
use Rattle.omf_making.specs.Words.{is_path, are_paths, words_of}
use Rattle.omf_making.proofs.form.are_paths.Goals as goal

-- enough arguments and not too many: what is left to say of them is that they are paths
all_that_is_left : (least most : ℕ) (words : List (String Global)) → least ≤ length words → length words ≤ most
    → list_all (λ word. is_path (string_bytes word)) words ≡ are_paths least most (words_of words)
all_that_is_left least most words few many =
    let count = length-map words string_bytes in
    let enough = le-leb least (length (words_of words)) (subst (λ (n : ℕ). least ≤ n) (sym count) few) in
    let most_is = le-leb (length (words_of words)) most (subst (λ (n : ℕ). n ≤ most) (sym count) many) in
    rw (enough, most_is) (sym (list_all-map is_path string_bytes words))

pub returns-then-words-most : goal.returns-then-words-most
returns-then-words-most c =
    let all = all_from_yields_List (λ word. is_path (string_bytes word)) _ _ _ c.all.ensures.ran (YieldsList-from_slice c.args.words.now cc) (λ x b q k. search (rules, tests)) in
    all ∙ all_that_is_left c.args.least c.args.most c.args.words.now c.if-words-most.true.0 c.if-words-most.true.1
