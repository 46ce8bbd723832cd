use Rattle.std.proofs.Common.{◌++◌, ℕ}
use Rattle.std.specs.List.{flat_map}
use Rattle.omf_format.specs.Expression.{Term}
use Rattle.omf_expr.specs.View.{view}
use Rattle.object_meaning.specs.Terms.{asks_value}
use Rattle.link_values.proofs.LeadLaws.{named_more, one_more, split_terms}
use Rattle.link_values.proofs.leads.add_leads.Goals as goal

pub terms-preserved : goal.terms-preserved
terms-preserved c = λ m there one none.
    let list = c.args.program.now in
    let place = c.args.member_place.place in
    let i = c.terms.invariant m there one none in
    let t : ℕ × Term = (c.in-Some.field-0-0, view c.in-Some.term) in
    let parts = split_terms c.terms.terms c.next.new.self t c.in-Some.ensures.answer c.in-Some.ensures.after in
    let whole = flat_map (λ (placed : ℕ × Term). asks_value placed.1) c.terms-terms.result in
    (i.0 ++ asks_value t.1, named_more list place m whole i.0 t c.next.new.self c.terms.terms i.1 parts, c.in_ok-add_lead-in-Some.ensures m i.0 there (one_more list place m whole i.0 t c.next.new.self c.terms.terms i.1 parts one) i.2)
