use Rattle.lib_dict.proofs.FileLaws.{WrittenNames}
use Rattle.lib_dict.proofs.texts.names_record.Given as goal

-- the names that were passed were written
abbrev pub invariant-rows : goal.invariant-rows
invariant-rows l = WrittenNames l.rows.items l.row-index l.out.items
