use Rattle.std.proofs.Common.{◌∙◌}
use Rattle.lib_dict.specs.View.{outer_row}
use Rattle.lib_dict.specs.Sizes.{moved_row}
use Rattle.lib_dict.proofs.FileLaws.{row_put, flag_is}
use Rattle.lib_dict.proofs.texts.put_row.Goals as goal

pub returns : goal.returns
returns c =
    row_put c.args.name (moved_row c.args.base (outer_row c.args.row.now)) c.from-flag.result c.args.out.now.items c.put_u32.new.out.items c.put_u16.new.out.items c.put_u16-2.new.out.items c.put_u32-2.new.out.items
    c.in_ok-put_u32.ensures c.in_ok-put_u16.ensures c.in_ok-put_u16-2.ensures c.in_ok-put_u32-2.ensures (c.from-flag.ensures ∙ flag_is c.args.row.now.private)
