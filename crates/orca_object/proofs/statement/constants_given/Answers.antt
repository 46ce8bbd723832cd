use Rattle.orca_operands.specs.NamesView.{constants}
use Rattle.orca_object.proofs.Stating.{by_parts, by_fault, by_nothing, with_answer}
use Rattle.orca_object.proofs.statement.constants_given.Goals as goal

pub returns-in-Ok : goal.returns-in-Ok
returns-in-Ok c =
    by_parts (constants c.args.known) c.args.msb c.args.text.bytes.now c.in-Ok.parts.items (with_answer (constants c.args.known) c.args.msb c.args.text.bytes.now c.in-Some.answer _ (rw c.in-Some.is at c.in_ok-found.ensures.found) c.in-Ok.is)

pub returns-in-Err : goal.returns-in-Err
returns-in-Err c =
    by_fault (constants c.args.known) c.args.msb c.args.text.bytes.now c.in-Err.cause (with_answer (constants c.args.known) c.args.msb c.args.text.bytes.now c.in-Some.answer _ (rw c.in-Some.is at c.in_ok-found.ensures.found) c.in-Err.is)

pub returns-in-None : goal.returns-in-None
returns-in-None c = by_nothing (constants c.args.known) c.args.msb c.args.text.bytes.now (rw c.in-None.is at c.in_ok-found.ensures.none)
