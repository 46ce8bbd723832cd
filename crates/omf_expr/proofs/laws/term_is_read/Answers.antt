use Rattle.std.proofs.Common.{Some}
use Rattle.omf_format.specs.laws.TermLaws.{term-takes, term-again}
use Rattle.omf_expr.proofs.laws.term_is_read.Goals as goal

pub returns-clause-takes : goal.returns-clause-takes
returns-clause-takes c = λ l bytes rest term fits read. let t = term-takes l bytes (Some term, rest) fits read in (t.term', t.taken.parts)

pub returns-clause-again : goal.returns-clause-again
returns-clause-again c = term-again
