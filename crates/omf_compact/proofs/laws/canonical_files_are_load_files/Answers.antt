use Rattle.omf_compact.specs.laws.AnswerLaws.{answer_is_loaded}
use Rattle.omf_compact.specs.laws.KeptLaws.{its_own}
use Rattle.omf_compact.proofs.laws.canonical_files_are_load_files.Goals as goal

pub returns-clause-loaded : goal.returns-clause-loaded
returns-clause-loaded c = answer_is_loaded

pub returns-clause-own : goal.returns-clause-own
returns-clause-own c = its_own
