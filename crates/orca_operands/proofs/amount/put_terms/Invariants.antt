use Rattle.std.proofs.Common.{◌≡◌, ◌++◌, map, drop}
use Rattle.std.specs.Prelude.{◌&&◌}
use Rattle.omf_format.specs.Expression.{AreTerms, terms_text}
use Rattle.orca_operands.specs.AmountView.{all_written, are_numbers, with_terms}
use Rattle.orca_operands.specs.NamesView.{constants}
use Rattle.orca_text.specs.View.{term}
use Rattle.orca_operands.proofs.amount.put_terms.Given as goal

abbrev pub invariant-terms : goal.invariant-terms
invariant-terms l =
    (l.out.items ++ terms_text 0 (all_written (constants l.known) l.back (map term (drop l.term-index l.terms))) ≡ l.initial.out.items ++ terms_text 0 (all_written (constants l.known) l.back (map term l.terms)))
    × ((l.all && are_numbers (constants l.known) (map term (drop l.term-index l.terms))) ≡ are_numbers (constants l.known) (map term l.terms)) × AreTerms 0 (map term (drop l.term-index l.terms))
    × (AreTerms 0 (with_terms (constants l.known) (map term (drop l.term-index l.terms))) → AreTerms 0 (with_terms (constants l.known) (map term l.terms)))
