use Rattle.std.proofs.Common.{length, sym, ◌∙◌}
use Rattle.loader_users.proofs.Settling.{table_room, table_filled, plain_filled}
use Rattle.loader_users.proofs.fill.fill.Goals as goal

pub fill_table-requires : goal.fill_table-requires
fill_table-requires c = record {
  fits = table_room c.args.load.now c.args.number c.args.head.now c.requires.head c.requires.sound (sym c.is_table.ensures ∙ c.if-is_table.true) (length c.args.out.now) c.requires.fits;
}

pub returns-then-is_table-clause-filled : goal.returns-then-is_table-clause-filled
returns-then-is_table-clause-filled c =
    table_filled c.args.load.now c.args.number c.args.head.now c.requires.head c.requires.sound (sym c.is_table.ensures ∙ c.if-is_table.true) c.args.user c.args.places.now c.fill_table.new.out c.fill_table.ensures.front

pub returns-else-is_table-clause-filled : goal.returns-else-is_table-clause-filled
returns-else-is_table-clause-filled c =
    plain_filled c.args.load.now c.args.number c.args.head.now c.requires.head (sym c.is_table.ensures ∙ c.if-is_table.false) c.args.user c.args.places.now c.fill_plain.new.out c.fill_plain.ensures.front
