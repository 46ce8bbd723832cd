use Rattle.std.proofs.Common.{sym, subst}
use Rattle.orca_object.specs.DoneView.{IsSome}
use Rattle.orca_object.proofs.Lefts.{using_left, some_named}
use Rattle.orca_operands.proofs.After.{then_if}
use Rattle.orca_object.proofs.segments.do_using.Goals as goal

pub using-requires : goal.using-requires
using-requires c = record { found = subst IsSome (sym c.in_ok-found.ensures) (some_named c.args.text.bytes.now) }

pub returns : goal.returns
returns c =
    then_if c.using.result (λ done leaves state line shows. using_left state line c.args.label c.in_ok-found.found c.args.text.bytes.now done c.using.new.kept c.in_ok-found.ensures (leaves state shows)) c.using.ensures
