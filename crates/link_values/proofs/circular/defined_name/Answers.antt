use Rattle.std.proofs.Common.{Some, refl, sym, ap, subst}
use Rattle.omf_format.specs.Record.{Record}
use Rattle.omf_records.specs.View.{view}
use Rattle.object_meaning.specs.Defines.{defined_by}
use Rattle.link_values.specs.Circulars.{DefinesName}
use Rattle.link_values.proofs.circular.defined_name.Goals as goal

pub returns-in-Label : goal.returns-in-Label
returns-in-Label c = λ at place. subst (λ (r : Record). DefinesName at (defined_by at place r) (Some c.in-Label.name.now)) (sym (ap view c.in-Label.is)) (_, refl, refl, refl)

pub returns-in-Equate : goal.returns-in-Equate
returns-in-Equate c = λ at place. subst (λ (r : Record). DefinesName at (defined_by at place r) (Some c.in-Equate.name.now)) (sym (ap view c.in-Equate.is)) (_, refl, refl, refl)
