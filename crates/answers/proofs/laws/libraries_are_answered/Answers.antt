use Rattle.answers.specs.laws.LibraryAnswers.{libraries_are_answered, dictionaries_are_answered}
use Rattle.answers.proofs.laws.libraries_are_answered.Goals as goal

pub returns : goal.returns
returns c = record { made = libraries_are_answered; read = dictionaries_are_answered }
