use Rattle.omf_compact.specs.laws.KeptLaws.{same_answer, one_answer, answer_or_refusal}
use Rattle.omf_compact.proofs.laws.canonical_forms_are_one.Goals as goal

pub returns-clause-same : goal.returns-clause-same
returns-clause-same c = same_answer

pub returns-clause-one : goal.returns-clause-one
returns-clause-one c = one_answer

pub returns-clause-or_refused : goal.returns-clause-or_refused
returns-clause-or_refused c = answer_or_refusal
