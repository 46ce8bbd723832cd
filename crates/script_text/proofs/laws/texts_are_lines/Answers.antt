use Rattle.omf_format.specs.laws.LinesLaws.{lines_of-lf, lines_of-cr_lf, lines_of-cr, lines_of-last}
use Rattle.script_text.proofs.JoinedWords.{words_make_line}
use Rattle.script_text.proofs.laws.texts_are_lines.Goals as goal

pub returns-clause-lf : goal.returns-clause-lf
returns-clause-lf c = lines_of-lf

pub returns-clause-cr_lf : goal.returns-clause-cr_lf
returns-clause-cr_lf c = lines_of-cr_lf

pub returns-clause-cr : goal.returns-clause-cr
returns-clause-cr c = lines_of-cr

pub returns-clause-last : goal.returns-clause-last
returns-clause-last c = lines_of-last

pub returns-clause-words : goal.returns-clause-words
returns-clause-words c = words_make_line
