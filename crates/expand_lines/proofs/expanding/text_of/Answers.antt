use Rattle.std.proofs.Common.{◌≤◌, ◌++◌, ℕ, List, length, ap, ◌∙◌, arith}
use Rattle.std.specs.List.{flat_map}
use Rattle.std.proofs.lemmas.List.{take_all}
use Rattle.orca_meaning.specs.Line.{Line}
use Rattle.orca_text.specs.View.{line}
use Rattle.expand_lines.specs.LinesText.{line_text}
use Rattle.expand_lines.proofs.TextLaws.{text_more}
use Rattle.expand_lines.proofs.expanding.text_of.Goals as goal

pub unreachable-requires : goal.unreachable-requires
unreachable-requires c = omega (arith, c.in-None.ensures.line, c.lines-test.true, c.count.ensures)

pub lines-preserved : goal.lines-preserved
lines-preserved c =
    c.in_ok-put_line-in-Some.ensures
    ∙ ap (λ (t : List ℕ). t ++ line_text (line c.in-Some.of.now)) c.lines.invariant
    ∙ text_more line_text c.lines.place c.args.lines.now (line c.in-Some.of.now) c.in-Some.ensures.line

pub returns : goal.returns
returns c =
    let most : length c.args.lines.now ≤ c.lines.place = omega (arith, c.lines-test.false, c.count.ensures) in
    c.lines.invariant ∙ ap (λ (ls : List Line). flat_map line_text ls) (take_all c.lines.place c.args.lines.now most)
