use Rattle.std.proofs.Common.{◌≡◌, true, false, sym, ap, ◌∙◌, arith}
use Rattle.link_values.specs.Equates.{open_count}
use Rattle.link_values.proofs.EquateLaws.{fewer_on, settled_on, all_settled}
use Rattle.link_values.proofs.equates.find_values_once.Goals as goal
use Rattle.link_values.proofs.equates.find_values_once.Goals.{then-find_value, else-find_value}

true_false : true ≡ false → ⊥
true_false e = cc

pub definitions-preserved : goal.definitions-preserved
definitions-preserved c = elim c.if-find_value.branch [
  | then-find_value w ↦ record {
    are = c.find_value.ensures.are;
    fewer = λ e. fewer_on c.definitions.slots.items c.find_value.new.slots.items c.args.slots.now.items c.definitions.found c.definitions.invariant.fewer c.definitions.invariant.same w.if-find_value.ensures.fewer;
    same = λ e. absurd (true_false (sym w.found-is ∙ e));
    settled = λ e. absurd (true_false (sym w.found-is ∙ e));
  }
  | else-find_value w ↦ record {
    are = c.find_value.ensures.are;
    fewer = λ e. omega (arith, c.definitions.invariant.fewer (sym w.found-is ∙ e), ap open_count (c.find_value.ensures.same w.if-find_value.false).0);
    same = λ e. (c.find_value.ensures.same w.if-find_value.false).0 ∙ c.definitions.invariant.same (sym w.found-is ∙ e);
    settled = λ e. settled_on c.args.edges.now c.definitions.slots.items c.args.slots.now.items c.definitions.number (c.definitions.invariant.same (sym w.found-is ∙ e)) (c.definitions.invariant.settled (sym w.found-is ∙ e)) (c.find_value.ensures.same w.if-find_value.false).1;
  }
]

pub returns-clause-settled : goal.returns-clause-settled
returns-clause-settled c = λ e.
    all_settled c.args.program.now c.args.edges.now c.definitions.slots.items c.args.slots.now.items c.definitions.number c.requires.rows c.definitions.invariant.are (c.definitions.invariant.same e)
    (omega (arith, c.definitions-test.false, c.count.ensures)) (c.definitions.invariant.settled e)
