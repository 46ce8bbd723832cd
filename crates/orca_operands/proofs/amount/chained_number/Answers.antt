use Rattle.std.proofs.Common.{map}
use Rattle.orca_operands.specs.NamesView.{constants}
use Rattle.orca_text.specs.View.{term}
use Rattle.orca_operands.proofs.Chains.{chain_ends, chain_whole}
use Rattle.orca_operands.proofs.amount.chained_number.Goals as goal

pub returns-in-empty : goal.returns-in-empty
returns-in-empty c =
    chain_whole (constants c.args.known) c.args.first c.left.number (map term c.args.others.now) (chain_ends (constants c.args.known) term c.left.left.now c.left.number _ c.in-empty.len_below c.left.invariant)
