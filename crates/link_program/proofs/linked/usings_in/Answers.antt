use Rattle.std.proofs.Common.{arith}
use Rattle.link_tables.specs.Uses.{use_of}
use Rattle.link_program.specs.Linked.{names_of}
use Rattle.link_tables.proofs.UseTables.{usings_next, usings_all}
use Rattle.link_program.proofs.linked.usings_in.Goals as goal

pub loop-number-preserved : goal.loop-number-preserved
loop-number-preserved c =
    usings_next c.args.uses.now c.loop-number.number (use_of c.get.result) (names_of c.loop-number.names.items) (names_of c.add_using.new.names.items) _ c.get.ensures c.in_ok-add_using.ensures c.loop-number.invariant

pub returns : goal.returns
returns c = usings_all c.args.uses.now c.loop-number.number (names_of c.loop-number.names.items) _ (omega (arith, c.loop-number-test.false, c.count-number-end.ensures)) c.loop-number.invariant
