use Rattle.std.specs.Prelude.{None}
use Rattle.omf_format.specs.laws.LinesLaws.{lines_of-lf, lines_of-cr_lf, lines_of-cr, lines_of-last}
use Rattle.orca_meaning.specs.laws.LineLaws.{have_fields, are_parted, outside_is_first}
use Rattle.orca_meaning.proofs.source_laws.lines_have_fields.Goals as goal

pub returns-clause-lf : goal.returns-clause-lf
returns-clause-lf c = lines_of-lf

pub returns-clause-cr_lf : goal.returns-clause-cr_lf
returns-clause-cr_lf c = lines_of-cr_lf

pub returns-clause-cr : goal.returns-clause-cr
returns-clause-cr c = lines_of-cr

pub returns-clause-last : goal.returns-clause-last
returns-clause-last c = lines_of-last

pub returns-clause-within : goal.returns-clause-within
returns-clause-within c = have_fields

pub returns-clause-parted : goal.returns-clause-parted
returns-clause-parted c = are_parted

pub returns-clause-outside : goal.returns-clause-outside
returns-clause-outside c test text k less = outside_is_first test None text k less
