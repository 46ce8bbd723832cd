use Rattle.std.proofs.Common.{refl, ap, ◌∙◌}
use Rattle.orca_meaning.specs.Names.{with_name}
use Rattle.asm_meaning.specs.Constant as meaning
use Rattle.orca_object.proofs.States.{constant_more, constant_waits}
use Rattle.orca_object.proofs.state.AsmState.equate_outside.Goals as goal

pub returns : goal.returns
returns c = λ state shows. record {
  widths = shows.widths;
  msb = shows.msb;
  outside = (rw c.bytes-name.ensures.value at c.in_ok-set.ensures) ∙ ap (with_name c.args.label.now c.args.n) shows.outside;
  org = shows.org;
  align = shows.align;
  front = constant_more state c.args.self.now.front c.put.new.self c.args.label.now c.args.n c.as_slice.result.now (c.as_slice.ensures.value ∙ c.in_ok-expr.ensures.text (meaning.Known c.args.n) refl) shows.front (rw c.bytes-name.ensures.value at c.in_ok-put.ensures);
  waiting = constant_waits state c.args.label.now c.args.n shows.waiting;
  segment = shows.segment;
  number = shows.number;
  object = shows.object;
}
