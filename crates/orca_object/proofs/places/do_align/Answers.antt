use Rattle.orca_operands.specs.NamesView.{constants}
use Rattle.orca_object.proofs.Lefts.{align_left}
use Rattle.orca_operands.proofs.After.{then_if}
use Rattle.orca_object.proofs.places.do_align.Goals as goal

pub returns : goal.returns
returns c =
    then_if c.apply_align.result (λ done leaves state line shows. align_left state line (constants c.known_constants.result) c.args.label c.args.text.bytes.now c.in_ok-number.number done c.apply_align.new.kept c.in_ok-number.ensures (c.known_constants.ensures state shows) (leaves state shows))
    c.apply_align.ensures
