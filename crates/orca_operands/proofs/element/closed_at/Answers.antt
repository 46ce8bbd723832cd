use Rattle.orca_operands.proofs.Quoted.{closes}
use Rattle.orca_operands.proofs.element.closed_at.Goals as goal

pub returns : goal.returns
returns c = record {
  text = closes c.args.text.now c.split_at.result.0.now c.split_at-2.result.1.now c.in_ok-count.count c.in_ok-count.ensures.value c.split_at.ensures.front c.split_at-2.ensures.back;
}
