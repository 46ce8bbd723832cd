use Rattle.load_meaning.specs.laws.WrittenBodyLaws.{stands_for}
use Rattle.load_writer.proofs.written_laws.bodies_stand_for_their_cells.Goals as goal

pub returns : goal.returns
returns c = stands_for
