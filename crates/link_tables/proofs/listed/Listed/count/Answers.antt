use Rattle.std.proofs.Common.{length, sym, ap, ◌∙◌, arith}
use Rattle.link_tables.specs.Listed.{expr_at}
use Rattle.link_tables.proofs.ListedLaws.{rows_count}
use Rattle.link_tables.proofs.listed.Listed.count.Goals as goal

pub returns-clause-value : goal.returns-clause-value
returns-clause-value c = ap length c.as_slice.ensures.value ∙ sym (rows_count (expr_at c.self.inside.exprs) 0 c.self.inside.marks.items) ∙ ap length c.self.view_is

pub returns-clause-few : goal.returns-clause-few
returns-clause-few c = omega (arith, ap length c.as_slice.ensures.value, c.self.inside.marks.ok, c.self.inside.marks.small)
