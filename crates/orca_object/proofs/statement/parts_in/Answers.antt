use Rattle.std.proofs.Common.{◌≡◌, ◌∷◌, map, length, sym, ap, subst, ◌∙◌, arith}
use Rattle.asm_meaning.specs.Elements.{IsElementAt, element_pieces}
use Rattle.asm_meaning.specs.laws.GivenLaws.{element-le}
use Rattle.orca_operands.specs.GivenView.{part_pieces}
use Rattle.orca_operands.specs.NamesView.{constants}
use Rattle.orca_operands.proofs.ByFormulas.{empty_list}
use Rattle.orca_operands.proofs.Gathering.{gathers_more, gathers_last, gathers_none, gathers_wrong, GathersAll}
use Rattle.orca_operands.proofs.Judging.{nothing_yet}
use Rattle.orca_operands.proofs.Listed.{some_list}
use Rattle.orca_object.proofs.Stating.{stands_once, has_elements, no_elements, all_parts}
use Rattle.orca_object.proofs.statement.parts_in.Goals as goal

pub elements-init : goal.elements-init
elements-init c = nothing_yet IsElementAt (element_pieces (constants c.args.known) c.args.msb) part_pieces c.args.text.bytes.now c.new-out.result.items c.new-out.ensures.items

pub invariant_of-element_at : goal.invariant_of-element_at
invariant_of-element_at c = record { short = omega (arith, c.elements.invariant.short, c.args.text.short) }

pub returns-in_default-clause-none : goal.returns-in_default-clause-none
returns-in_default-clause-none c =
    no_elements c.args.text.bytes.now (gathers_none IsElementAt (element_pieces (constants c.args.known) c.args.msb) c.args.text.bytes.now c.elements.fault (map part_pieces c.elements.out.items) c.elements.left.now c.elements.invariant
    (rw c.in_default.is at c.in_ok-found.ensures.none))

pub returns-then-is_empty-clause-found : goal.returns-then-is_empty-clause-found
returns-then-is_empty-clause-found c =
    let f = rw c.in-Some.is at c.in_ok-found.ensures.found in
    let all = gathers_last IsElementAt (element_pieces (constants c.args.known) c.args.msb) part_pieces c.args.text.bytes.now c.elements.fault c.gather_answer.new.fault c.elements.out.items c.gather_answer.new.out.items c.in-Some.answer
    c.elements.left.now c.in-Some.rest.now f.element c.elements.invariant f.is f.gives c.in_ok-gather_answer.ensures.fault c.in_ok-gather_answer.ensures.all (empty_list c.in-Some.rest.now (sym c.is_empty.ensures ∙ c.if-is_empty.true)) in
    has_elements (constants c.args.known) c.args.msb c.args.text.bytes.now _
    (subst (GathersAll IsElementAt (element_pieces (constants c.args.known) c.args.msb) c.args.text.bytes.now) (sym (all_parts c.gather_answer.new.fault c.gather_answer.new.out c.answer_or_fault.result c.answer_or_fault.ensures)) all)

pub returns-in_default-after_byte-clause-none : goal.returns-in_default-after_byte-clause-none
returns-in_default-after_byte-clause-none c =
    let f = rw c.in-Some.is at c.in_ok-found.ensures.found in
    no_elements c.args.text.bytes.now (gathers_wrong IsElementAt (element_pieces (constants c.args.known) c.args.msb) stands_once c.args.text.bytes.now c.elements.fault (map part_pieces c.elements.out.items) c.elements.left.now c.in-Some.rest.now
    f.element c.elements.invariant f.is (some_list c.in-Some.rest.now (sym c.is_empty.ensures ∙ c.if-is_empty.false)) c.in_default-after_byte.ensures)

pub elements-preserved : goal.elements-preserved
elements-preserved c =
    let f = rw c.in-Some.is at c.in_ok-found.ensures.found in
    let comma : c.in-Some.rest.now ≡ 0x2C ∷ c.in-Some-after_byte.following.now = c.in-Some-after_byte.ensures in
    gathers_more IsElementAt (element_pieces (constants c.args.known) c.args.msb) part_pieces stands_once c.args.text.bytes.now c.elements.fault c.gather_answer.new.fault c.elements.out.items c.gather_answer.new.out.items c.in-Some.answer
    c.elements.left.now c.in-Some.rest.now c.in-Some-after_byte.following.now f.element c.elements.invariant f.is f.gives c.in_ok-gather_answer.ensures.fault c.in_ok-gather_answer.ensures.all comma
    (omega (arith, ap length comma, element-le c.elements.left.now f.element c.in-Some.rest.now f.is))

pub elements-smaller : goal.elements-smaller
elements-smaller c =
    let f = rw c.in-Some.is at c.in_ok-found.ensures.found in
    let comma : c.in-Some.rest.now ≡ 0x2C ∷ c.in-Some-after_byte.following.now = c.in-Some-after_byte.ensures in
    omega (arith, ap length comma, element-le c.elements.left.now f.element c.in-Some.rest.now f.is)
