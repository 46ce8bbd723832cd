use Rattle.orca_operands.proofs.Packed.{packed_more, some_length}
use Rattle.orca_operands.proofs.digits.pack_digits.Goals as goal

pub groups-preserved : goal.groups-preserved
groups-preserved c =
    packed_more c.args.base c.args.each c.args.digits.now c.groups.out.items c.push.new.self.items c.groups.left.now c.group-byte.result.1.now c.group-byte.result.0 c.requires.each c.groups.invariant (some_length c.groups.left.now c.is_empty.result c.is_empty.ensures c.groups-test.true)
    c.group-byte.ensures.value c.group-byte.ensures.rest c.in_ok-push.ensures.items
