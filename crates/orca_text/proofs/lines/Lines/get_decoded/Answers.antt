use Rattle.orca_text.specs.DecodedView.{decoded_line}
use Rattle.orca_text.proofs.Own.{fields_at, own_at}
use Rattle.orca_text.proofs.lines.Lines.get_decoded.Goals as goal

pub returns-in-Some-clause-fields : goal.returns-in-Some-clause-fields
returns-in-Some-clause-fields c = fields_at c.args.self.now c.args.place (decoded_line c.in-Some.found.now) c.at.ensures.own c.in-Some.ensures.line

pub returns-in-Some-clause-own : goal.returns-in-Some-clause-own
returns-in-Some-clause-own c = (own_at c.args.self.now c.args.place (decoded_line c.in-Some.found.now) c.at.ensures.own c.in-Some.ensures.line).0
