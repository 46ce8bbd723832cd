use Rattle.std.proofs.Common.{◌≡◌, ◌∙◌, ◌++◌, ℕ, List, [], ◌∷◌, ap}
use Rattle.omf_base.specs.Digits.{hexadecimal}
use Rattle.list_lines.specs.OutputView.{finished_lines, open_line}
use Rattle.list_lines.proofs.Formulas.{sum_line, sum_answer}
use Rattle.list_lines.proofs.lines.put_dc_formula.Goals as goal

pub returns-clause-wrote : goal.returns-clause-wrote
returns-clause-wrote c =
    let line : open_line c.word-2.new.self ≡ sum_line c.args.count c.args.formula.now =
    c.in_ok-word-2.ensures.line ∙ ap (λ (l : List ℕ). l ++ 39 ∷ []) (c.in_ok-put.ensures.line
    ∙ ap (λ (l : List ℕ). l ++ c.args.formula.now) (c.in_ok-word.ensures.line
    ∙ ap (λ (l : List ℕ). l ++ 39 ∷ []) (c.in_ok-digits.ensures.line ∙ ap (λ (l : List ℕ). l ++ hexadecimal 1 c.args.count) c.in_ok-statement.ensures.line))) in
    let same : finished_lines c.word-2.new.self ≡ finished_lines c.args.out.now =
    c.in_ok-word-2.ensures.kept ∙ c.in_ok-put.ensures.kept ∙ c.in_ok-word.ensures.kept ∙ c.in_ok-digits.ensures.kept ∙ c.in_ok-statement.ensures.kept in
    sum_answer c.finish.result c.args.count c.args.formula.now c.args.out.now c.word-2.new.self c.finish.new.self line same c.finish.ensures.kept c.finish.ensures.line c.finish.ensures.short
