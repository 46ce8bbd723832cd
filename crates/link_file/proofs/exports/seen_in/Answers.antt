use Rattle.std.proofs.Common.{Some, refl, sym, ap, subst}
use Rattle.omf_format.specs.Record.{Record}
use Rattle.omf_records.specs.View.{view}
use Rattle.object_meaning.specs.Defines.{defined_by}
use Rattle.link_file.specs.Exported.{DefinesSeen}
use Rattle.link_file.proofs.exports.seen_in.Goals as goal

pub returns-in-Label : goal.returns-in-Label
returns-in-Label c = λ at place.
    subst (λ (r : Record). DefinesSeen (defined_by at place r) (Some (record { name = c.in-Label.name.now; public = c.is_public.result }))) (sym (ap view c.in-Label.is)) (_, refl, record { name' = refl; public' = sym c.is_public.ensures })

pub returns-in-Equate : goal.returns-in-Equate
returns-in-Equate c = λ at place.
    subst (λ (r : Record). DefinesSeen (defined_by at place r) (Some (record { name = c.in-Equate.name.now; public = c.is_public-in-Equate.result }))) (sym (ap view c.in-Equate.is)) (_, refl, record { name' = refl; public' = sym c.is_public-in-Equate.ensures })
