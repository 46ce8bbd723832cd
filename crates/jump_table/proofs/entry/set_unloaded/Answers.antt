use Rattle.std.proofs.Common.{rules, ◌≡◌, ◌+◌, None}
use Rattle.load_meaning.specs.Table.{code_bytes, written_at}
use Rattle.load_meaning.specs.laws.TableLaws.{entry_of_code}
use Rattle.jump_table.proofs.entry.set_unloaded.Goals as goal

pub returns-clause-entry : goal.returns-clause-entry
returns-clause-entry c entry there =
    let is : c.overwrite_bytes.new.bytes ≡ written_at (c.args.at + 10) (code_bytes None) c.args.bytes.now = search rules in
    rw is (entry_of_code entry c.args.at c.args.bytes.now there None tt)
