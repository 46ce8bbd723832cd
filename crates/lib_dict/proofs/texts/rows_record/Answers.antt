use Rattle.std.proofs.Common.{◌≡◌, ◌<◌, ◌-◌, List, length, get_or, ap, ◌∙◌, arith}
use Rattle.lib_dict.specs.declared.listed.Outer.{Outer}
use Rattle.lib_dict.specs.View.{outer_row}
use Rattle.lib_dict.proofs.FileLaws.{each_at, rows_none, rows_next, rows_all}
use Rattle.lib_dict.proofs.texts.rows_record.Goals as goal

pub rows-init : goal.rows-init
rows-init c = rows_none c.args.rows.now.items c.args.base c.new-out.result.items c.new-out.ensures.items

pub put_row-requires : goal.put_row-requires
put_row-requires c =
    let i = c.rows.row-index in
    let o = c.row-item.result in
    let lt : i < length c.args.rows.now.items = omega (arith, c.rows-test.true, ap length c.deref-row-items.ensures.value) in
    let is : o ≡ get_or c.args.rows.now.items i o = c.row-item.is ∙ ap (λ (l : List Outer). get_or l i o) c.deref-row-items.ensures.value in
    let at = each_at (λ row. row.at < 4294967296 - c.args.base) outer_row c.args.rows.now.items i o c.requires.places.each lt is in
    omega (arith, at)

pub rows-preserved : goal.rows-preserved
rows-preserved c =
    let i = c.rows.row-index in
    let o = c.row-item.result in
    let lt : i < length c.args.rows.now.items = omega (arith, c.rows-test.true, ap length c.deref-row-items.ensures.value) in
    let is : o ≡ get_or c.args.rows.now.items i o = c.row-item.is ∙ ap (λ (l : List Outer). get_or l i o) c.deref-row-items.ensures.value in
    rows_next c.args.rows.now.items c.args.base i c.rows.name c.rows.out.items c.put_row.new.out.items o c.rows.invariant lt is c.in_ok-put_row.ensures

pub returns : goal.returns
returns c = rows_all c.args.rows.now.items c.args.base c.rows.row-index c.rows.name c.rows.out.items c.rows.invariant (omega (arith, c.rows-test.false, ap length c.deref-row-items.ensures.value))
