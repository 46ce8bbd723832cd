use Rattle.std.proofs.Common.{rules, ◌≡◌}
use Rattle.byteorder.specs.Endian.{little_bytes}
use Rattle.load_meaning.specs.Table.{written_at}
use Rattle.load_meaning.specs.laws.TableLaws.{entry_of_user}
use Rattle.jump_table.proofs.entry.set_user.Goals as goal

pub returns-clause-entry : goal.returns-clause-entry
returns-clause-entry c entry there =
    let is : c.overwrite_bytes.new.bytes ≡ written_at c.args.at (little_bytes 2 c.args.user) c.args.bytes.now = search rules in
    rw is (entry_of_user entry c.args.at c.args.bytes.now there c.args.user c.ranges.user.fits)
