use Rattle.omf_cli.proofs.Begins.{begins}
use Rattle.omf_cli.proofs.laws.linked_files_begin.Goals as goal

pub returns : goal.returns
returns c = λ given output bytes is none held path here libraries state result new before now met. begins given output bytes is none held path here libraries state result new before now met
