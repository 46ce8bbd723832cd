use Rattle.orca_operands.specs.NamesView.{constants}
use Rattle.orca_object.proofs.MarkLaws.{constants_plain, constants_left}
use Rattle.orca_operands.proofs.After.{then_if}
use Rattle.orca_object.proofs.data.do_constants.Goals as goal

pub give_statement-requires : goal.give_statement-requires
give_statement-requires c = record { plain = constants_plain (constants c.known_constants-known.result) c.args.kept.now.msb c.args.text.bytes.now c.in_ok-given.given c.recall_small.ensures c.args.text.short c.in_ok-given.ensures }

pub returns : goal.returns
returns c =
    then_if c.give_statement.result (λ done leaves state l shows. constants_left state l (constants c.known_constants-known.result) c.args.kept.now.msb c.args.label c.args.text.bytes.now c.in_ok-given.given done c.give_statement.new.kept c.in_ok-given.ensures
    (c.known_constants-known.ensures state shows) shows.msb (leaves state shows)) c.give_statement.ensures
