use Rattle.std.proofs.Common.{sym, ◌∙◌}
use Rattle.link_file.proofs.FileLaws.{tables_none, tables_some}
use Rattle.link_map.proofs.mapping.number_after.Goals as goal

pub returns-then-count-eq0 : goal.returns-then-count-eq0
returns-then-count-eq0 c = tables_none c.args.number c.args.table.now (sym c.count.ensures.value ∙ c.if-count-eq0.true)

pub returns : goal.returns
returns c = tables_some c.args.number c.args.table.now (λ none. c.if-count-eq0.false (c.count.ensures.value ∙ none))
