use Rattle.lib_dict.proofs.FileLaws.{WrittenRows}
use Rattle.lib_dict.proofs.texts.rows_record.Given as goal

-- the rows that were passed were written
abbrev pub invariant-rows : goal.invariant-rows
invariant-rows l = WrittenRows l.rows.items l.base l.row-index l.name l.out.items
