use Rattle.source_meaning.specs.laws.ObjectFileProofs.{object_is_file}
use Rattle.source_meaning.proofs.laws.objects_are_files.Goals as goal

pub returns : goal.returns
returns c = object_is_file
