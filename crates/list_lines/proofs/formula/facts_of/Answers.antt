use Rattle.std.proofs.Common.{◌∙◌}
use Rattle.omf_expr.specs.View.{view}
use Rattle.list_meaning.specs.Listing.{is_open, term_listable, term_may_stand}
use Rattle.list_lines.proofs.TermLaws.{all_on, any_on}
use Rattle.list_lines.proofs.formula.facts_of.Goals as goal

pub terms-preserved : goal.terms-preserved
terms-preserved c =
    let known = c.terms.known in
    let more = c.with_term-known.result in
    let term = view c.in-Some.term in
    let place = c.in-Some.field-0-0 in (
      λ all names. all_on (term_listable all) known.named more.named c.terms.terms c.next.new.self place term c.in-Some.ensures.answer c.in-Some.ensures.after (c.with_term-known.ensures.named all names) ∙ c.terms.invariant.0 all names,
      all_on term_may_stand known.written more.written c.terms.terms c.next.new.self place term c.in-Some.ensures.answer c.in-Some.ensures.after c.with_term-known.ensures.written ∙ c.terms.invariant.1,
      any_on is_open known.varies more.varies c.terms.terms c.next.new.self place term c.in-Some.ensures.answer c.in-Some.ensures.after c.with_term-known.ensures.varies ∙ c.terms.invariant.2,
    )
