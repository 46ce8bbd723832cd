use Rattle.orca_operands.specs.DcView.{part_answer}
use Rattle.orca_operands.specs.NamesView.{constants}
use Rattle.orca_operands.specs.PieceView.{pieces_answer}
use Rattle.orca_operands.proofs.Elementing.{has_width, inner_short, has_element, no_count, no_kind, no_quote, no_value}
use Rattle.orca_operands.proofs.dc.element_at.Goals as goal

pub value_at-requires : goal.value_at-requires
value_at-requires c = record { width = has_width c.in-Some.following.now c.in-Some-kind_at.quote.now c.in-Some-kind_at.kind c.in-Some-kind_at.ensures }

pub invariant_of-value_at : goal.invariant_of-value_at
invariant_of-value_at c = record {
  short = inner_short (constants c.args.known) c.args.text.bytes.now c.in-Some.following.now c.in-Some-kind_at.quote.now c.in-Some-after_byte.inner.now c.in-Some-kind_at.kind c.in-Some.count c.args.text.short
      (rw c.in-Some.is at c.in_ok-counted.ensures.found) c.in-Some-kind_at.ensures c.in-Some-after_byte.ensures;
}

pub returns-in_default-clause-none : goal.returns-in_default-clause-none
returns-in_default-clause-none c = no_count c.args.text.bytes.now (rw c.in_default.is at c.in_ok-counted.ensures.none)

pub returns-in_default-kind_at-clause-none : goal.returns-in_default-kind_at-clause-none
returns-in_default-kind_at-clause-none c = no_kind (constants c.args.known) c.args.text.bytes.now c.in-Some.following.now c.in-Some.count (rw c.in-Some.is at c.in_ok-counted.ensures.found) c.in_default-kind_at.ensures

pub returns-in_default-after_byte-clause-none : goal.returns-in_default-after_byte-clause-none
returns-in_default-after_byte-clause-none c =
    no_quote (constants c.args.known) c.args.text.bytes.now c.in-Some.following.now c.in-Some-kind_at.quote.now c.in-Some-kind_at.kind c.in-Some.count (rw c.in-Some.is at c.in_ok-counted.ensures.found) c.in-Some-kind_at.ensures
    c.in_default-after_byte.ensures

pub returns-in_default-found-clause-none : goal.returns-in_default-found-clause-none
returns-in_default-found-clause-none c =
    no_value (constants c.args.known) c.args.text.bytes.now c.in-Some.following.now c.in-Some-kind_at.quote.now c.in-Some-after_byte.inner.now c.in-Some-kind_at.kind c.in-Some.count (rw c.in-Some.is at c.in_ok-counted.ensures.found)
    c.in-Some-kind_at.ensures c.in-Some-after_byte.ensures (rw c.in_default-found.is at c.in_ok-found.ensures.none)

pub returns-clause-found : goal.returns-clause-found
returns-clause-found c =
    has_element (constants c.args.known) c.args.msb c.args.text.bytes.now c.in-Some.following.now c.in-Some-kind_at.quote.now c.in-Some-after_byte.inner.now c.in-Some-found.rest.now c.in-Some-kind_at.kind c.in-Some.count
    (pieces_answer c.in-Some-found.value) (part_answer c.part_of.result) (rw c.in-Some.is at c.in_ok-counted.ensures.found) c.in-Some-kind_at.ensures c.in-Some-after_byte.ensures
    (rw c.in-Some-found.is at c.in_ok-found.ensures.found) c.part_of.ensures
