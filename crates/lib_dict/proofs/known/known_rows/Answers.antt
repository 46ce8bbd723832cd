use Rattle.std.proofs.Common.{◌∙◌, arith, ap, length}
use Rattle.indexmap.specs.IndexSet.{insert_key}
use Rattle.lib_dict.specs.declared.listed.Outer.{Outer}
use Rattle.lib_dict.specs.View.{outer_row}
use Rattle.lib_dict.specs.Tables.{same_row}
use Rattle.lib_dict.proofs.Sets.{rows-step}
use Rattle.lib_dict.proofs.known.known_rows.Goals as goal

pub rows-preserved : goal.rows-preserved
rows-preserved c =
    rows-step c.args.rows.now.items c.deref-row-items.result.now c.rows.row-index c.row-item.result c.rows.known.keys c.insert.new.self.keys (omega (arith, c.rows-test.true, ap length c.deref-row-items.ensures.value)) c.deref-row-items.ensures.value c.rows.invariant
    (c.in_ok-insert.ensures.keys ∙ ap (λ (o : Outer). insert_key (λ (a b : Outer). same_row (outer_row a) (outer_row b)) c.rows.known.keys o) c.row-item.is)
