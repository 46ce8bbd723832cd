use Rattle.std.proofs.Common.{◌≡◌, ◌++◌, map, drop}
use Rattle.omf_format.specs.Expression.{AreTerms, terms_text}
use Rattle.orca_text.specs.View.{term}
use Rattle.orca_symbols.proofs.conditions.expression.Given as goal

abbrev pub invariant-terms : goal.invariant-terms
invariant-terms l =
    (l.out.items ++ terms_text 0 (map term (drop l.next-index l.terms)) ≡ terms_text 0 (map term l.terms)) × AreTerms 0 (map term (drop l.next-index l.terms))
