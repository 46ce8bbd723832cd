use Rattle.std.proofs.Common.{◌≡◌, ℕ, List, length}
use Rattle.std.specs.Prelude.{◌&&◌, ◌||◌}
use Rattle.omf_format.specs.Expression.{terms_in}
use Rattle.list_meaning.specs.Listing.{is_open, term_listable, term_may_stand}
use Rattle.list_lines.specs.FormulaView.{all_terms, any_term}
use Rattle.list_lines.specs.NamesView.{AreNames}
use Rattle.list_lines.proofs.formula.facts_of.Given as goal

-- what is known of the terms so far, and what the terms that are left say
abbrev pub invariant-terms : goal.invariant-terms
invariant-terms l =
    ((all : List (List ℕ)) → AreNames l.equates all → (l.known.named && all_terms (term_listable all) l.terms) ≡ all_terms (term_listable all) (terms_in l.expr.lab_len 0 l.expr.text))
    × ((l.known.written && all_terms term_may_stand l.terms) ≡ all_terms term_may_stand (terms_in l.expr.lab_len 0 l.expr.text))
    × ((l.known.varies || any_term is_open l.terms) ≡ any_term is_open (terms_in l.expr.lab_len 0 l.expr.text))

abbrev pub decreases-terms : goal.decreases-terms
decreases-terms l = length l.terms
