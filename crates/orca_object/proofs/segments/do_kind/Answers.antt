use Rattle.orca_operands.specs.NamesView.{constants}
use Rattle.orca_object.proofs.Lefts.{kind_left}
use Rattle.orca_operands.proofs.After.{then_if}
use Rattle.orca_object.proofs.segments.do_kind.Goals as goal

pub returns : goal.returns
returns c =
    then_if c.kinding.result (λ done leaves state line shows. kind_left state line (constants c.known_constants.result) c.args.label c.args.text.bytes.now c.in_ok-number.number done c.kinding.new.kept c.in_ok-number.ensures (c.known_constants.ensures state shows) (leaves state shows))
    c.kinding.ensures
