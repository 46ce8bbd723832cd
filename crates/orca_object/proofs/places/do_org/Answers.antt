use Rattle.orca_object.proofs.Lefts.{org_left}
use Rattle.orca_operands.proofs.After.{then_if}
use Rattle.orca_object.proofs.places.do_org.Goals as goal

pub returns : goal.returns
returns c =
    then_if c.moving.result (λ done leaves state line shows. org_left state line c.args.label c.args.text.bytes.now c.in_ok-number.number done c.moving.new.kept (c.in_ok-number.ensures state shows) (leaves state shows)) c.moving.ensures
