use Rattle.answers.specs.laws.LoadAnswers.{load_files_are_answered, runtime_files_are_answered}
use Rattle.answers.proofs.laws.load_files_are_answered.Goals as goal

pub returns : goal.returns
returns c = record { load = load_files_are_answered; runtime = runtime_files_are_answered }
