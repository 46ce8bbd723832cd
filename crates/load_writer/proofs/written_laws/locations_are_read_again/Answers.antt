use Rattle.load_meaning.specs.laws.PageLaws.{read_again}
use Rattle.load_writer.proofs.written_laws.locations_are_read_again.Goals as goal

pub returns : goal.returns
returns c = read_again
