use Rattle.load_meaning.specs.laws.TableLaws.{one_entry, written_is_read}
use Rattle.jump_table.proofs.laws.entries_are_read_in_one_way.Goals as goal

pub returns : goal.returns
returns c = record { once = one_entry; written = written_is_read }
