use Rattle.std.proofs.Common.{◌≡◌, ◌∷◌, ◌≤◌, map, length, sym, ap, subst, ◌∙◌, arith}
use Rattle.asm_meaning.specs.Elements.{piece_of_number}
use Rattle.orca_operands.specs.NamesView.{constants}
use Rattle.orca_operands.specs.PieceView.{piece}
use Rattle.orca_operands.proofs.ByFormulas.{empty_list}
use Rattle.orca_operands.proofs.Gathering.{gathers_more, gathers_last, gathers_none, gathers_wrong, GathersAll}
use Rattle.orca_operands.proofs.Judging.{FormulaStands, formula_once, has_numbers, no_formulas, fine_terms, kept_from, all_pieces, nothing_yet}
use Rattle.orca_operands.proofs.Listed.{some_list}
use Rattle.orca_operands.proofs.numbers.numbers_in.Goals as goal

pub formulas-init : goal.formulas-init
formulas-init c = nothing_yet FormulaStands (piece_of_number (constants c.args.known) c.args.width) piece c.args.text.bytes.now c.new-out.result.items c.new-out.ensures.items

pub returns-in_default-clause-none : goal.returns-in_default-clause-none
returns-in_default-clause-none c =
    no_formulas c.args.text.bytes.now (gathers_none FormulaStands (piece_of_number (constants c.args.known) c.args.width) c.args.text.bytes.now c.formulas.fault (map piece c.formulas.out.items) c.formulas.left.now c.formulas.invariant
    (rw c.in_default.is at c.in_ok-found.ensures.none))

pub piece_of_number-requires-clause-fine : goal.piece_of_number-requires-clause-fine
piece_of_number-requires-clause-fine c =
    fine_terms c.formulas.left.now c.in-Some.found.formula c.in-Some.found.large c.in-Some.found.rest.now (omega (arith, c.formulas.invariant.short, c.args.text.short)) (rw c.in-Some.is at c.in_ok-found.ensures.found)

pub returns-then-is_empty-clause-found : goal.returns-then-is_empty-clause-found
returns-then-is_empty-clause-found c =
    let f = rw c.in-Some.is at c.in_ok-found.ensures.found in
    let short : length c.formulas.left.now ≤ 255 = omega (arith, c.formulas.invariant.short, c.args.text.short) in
    let answer = c.in_ok-answer.ensures f.tree (kept_from c.formulas.left.now c.in-Some.found.formula c.in-Some.found.large c.in-Some.found.rest.now short f) in
    let all = gathers_last FormulaStands (piece_of_number (constants c.args.known) c.args.width) piece c.args.text.bytes.now c.formulas.fault c.gather_answer.new.fault c.formulas.out.items c.gather_answer.new.out.items c.in_ok-answer.answer
    c.formulas.left.now c.in-Some.found.rest.now f.tree c.formulas.invariant f.means answer c.in_ok-gather_answer.ensures.fault c.in_ok-gather_answer.ensures.all (empty_list c.in-Some.found.rest.now (sym c.is_empty.ensures ∙ c.if-is_empty.true)) in
    has_numbers (constants c.args.known) c.args.width c.args.text.bytes.now _
    (subst (GathersAll FormulaStands (piece_of_number (constants c.args.known) c.args.width) c.args.text.bytes.now) (sym (all_pieces c.gather_answer.new.fault c.gather_answer.new.out c.answer_or_fault.result c.answer_or_fault.ensures)) all)

pub returns-in_default-after_byte-clause-none : goal.returns-in_default-after_byte-clause-none
returns-in_default-after_byte-clause-none c =
    let f = rw c.in-Some.is at c.in_ok-found.ensures.found in
    no_formulas c.args.text.bytes.now (gathers_wrong FormulaStands (piece_of_number (constants c.args.known) c.args.width) formula_once c.args.text.bytes.now c.formulas.fault (map piece c.formulas.out.items) c.formulas.left.now c.in-Some.found.rest.now f.tree
    c.formulas.invariant f.means (some_list c.in-Some.found.rest.now (sym c.is_empty.ensures ∙ c.if-is_empty.false)) c.in_default-after_byte.ensures)

pub formulas-preserved : goal.formulas-preserved
formulas-preserved c =
    let f = rw c.in-Some.is at c.in_ok-found.ensures.found in
    let short : length c.formulas.left.now ≤ 255 = omega (arith, c.formulas.invariant.short, c.args.text.short) in
    let answer = c.in_ok-answer.ensures f.tree (kept_from c.formulas.left.now c.in-Some.found.formula c.in-Some.found.large c.in-Some.found.rest.now short f) in
    let comma : c.in-Some.found.rest.now ≡ 0x2C ∷ c.in-Some-after_byte.following.now = c.in-Some-after_byte.ensures in
    let less : length c.in-Some.found.rest.now ≤ length c.formulas.left.now = rw c.in-Some.is at c.in_ok-found.ensures.bound in
    gathers_more FormulaStands (piece_of_number (constants c.args.known) c.args.width) piece formula_once c.args.text.bytes.now c.formulas.fault c.gather_answer.new.fault c.formulas.out.items c.gather_answer.new.out.items c.in_ok-answer.answer
    c.formulas.left.now c.in-Some.found.rest.now c.in-Some-after_byte.following.now f.tree c.formulas.invariant f.means answer c.in_ok-gather_answer.ensures.fault c.in_ok-gather_answer.ensures.all comma (omega (arith, ap length comma, less))
