use Rattle.orca_operands.specs.NamesView.{constants}
use Rattle.orca_object.proofs.Lefts.{space_left}
use Rattle.orca_operands.proofs.After.{then_if}
use Rattle.orca_object.proofs.data.do_space.Goals as goal

pub returns : goal.returns
returns c =
    then_if c.space.result (λ done leaves state line shows. space_left state line (constants c.known_constants.result) c.args.label c.args.text.bytes.now c.in_ok-number.number done c.space.new.kept c.in_ok-number.ensures (c.known_constants.ensures state shows) (leaves state shows))
    c.space.ensures
