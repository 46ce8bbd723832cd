use Rattle.std.specs.Prelude.{drop}
use Rattle.load_meaning.specs.Cells as cells
use Rattle.omf_format.specs.File.{segment_at}
use Rattle.load_content.specs.Places.{address_in}
use Rattle.loader_users.proofs.Settling.{front_of}
use Rattle.loader_users.proofs.fill.fill_plain.Goals as goal

pub returns-clause-front : goal.returns-clause-front
returns-clause-front c =
    front_of (segment_at c.args.load.now c.args.number) (cells.stands (address_in c.args.places.now)) c.patch_into.new.out (drop c.args.size c.args.out.now) c.patch_into.ensures
