use Rattle.std.proofs.Common.{◌≡◌, ◌<◌, List, length, get_or, ap, ◌∙◌, arith}
use Rattle.lib_dict.specs.declared.listed.Outer.{Outer}
use Rattle.lib_dict.proofs.FileLaws.{names_none, names_next, names_all}
use Rattle.lib_dict.proofs.texts.names_record.Goals as goal

pub rows-init : goal.rows-init
rows-init c = names_none c.args.rows.now.items c.new-out.result.items c.new-out.ensures.items

pub rows-preserved : goal.rows-preserved
rows-preserved c =
    let i = c.rows.row-index in
    let o = c.row-item.result in
    let lt : i < length c.args.rows.now.items = omega (arith, c.rows-test.true, ap length c.deref-row-items.ensures.value) in
    let is : o ≡ get_or c.args.rows.now.items i o = c.row-item.is ∙ ap (λ (l : List Outer). get_or l i o) c.deref-row-items.ensures.value in
    names_next c.args.rows.now.items i c.rows.out.items c.put_name.new.out.items o c.rows.invariant lt is c.in_ok-put_name.ensures

pub returns : goal.returns
returns c = names_all c.args.rows.now.items c.rows.row-index c.rows.out.items c.rows.invariant (omega (arith, c.rows-test.false, ap length c.deref-row-items.ensures.value))
