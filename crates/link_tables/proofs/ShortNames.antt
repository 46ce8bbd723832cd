-- Names as files have them have 255 bytes at most.
use Rattle.std.proofs.Common.{◌≡◌, ℕ, zero, suc, ◌+◌, ◌≤◌, ◌<◌, List, [], ◌∷◌, length, Some, sym, subst, arith}
use Rattle.std.specs.Prelude.{slice_get}
use Rattle.std.specs.List.{AllByRecursion}
use Rattle.omf_format.specs.Field.{IsName}
use Rattle.omf_format.specs.Expression.{Term, Operator, Location, Constant, Named, Offset, IsTerm, AreTerms, IsExpression, term_text, terms_of, placed_terms, terms_in}
use Rattle.omf_format.specs.laws.ExpressionLaws.{terms_are}
use Rattle.omf_format.specs.laws.TreeLaws.{tree_has_terms}
use Rattle.link_meaning.specs.Uses.{Use}
use Rattle.link_tables.specs.Uses.{IsShortTerm, HaveShortNames}

pub name_short : (l : ℕ) (name : List ℕ) → l < 256 → IsName l name → length name ≤ 255
name_short zero name few is = is.1
name_short (suc l) name few is = omega (arith, is.1, few)

term_short : (l : ℕ) (term : Term) → l < 256 → IsTerm l term → IsShortTerm term
term_short l (Operator code) few is = tt
term_short l Location few is = tt
term_short l (Constant n) few is = tt
term_short l (Named code name) few is = name_short l name few is.1
term_short l (Offset n) few is = tt

-- the same for terms with their displacements
abbrev pub AreShort : List (ℕ × Term) → Type 0
AreShort terms = AllByRecursion (λ placed. IsShortTerm placed.1) terms

terms_short : (l at : ℕ) (terms : List Term) → l < 256 → AreTerms l terms → AreShort (placed_terms l at terms)
terms_short l at [] few are = tt
terms_short l at (term ∷ terms) few are = (term_short l term few are.0, terms_short l (at + length (term_text l term)) terms few are.1)

pub text_short : (l : ℕ) (text : List ℕ) → IsExpression l text → l < 256 → AreShort (terms_in l 0 text)
text_short l text is few = subst AreShort (sym (terms_are l text is.tree is.spells)) (terms_short l 0 (terms_of is.tree) few (tree_has_terms l is.tree is.spells.formed))

use_same : (a b : ℕ × Use) → Some a ≡ Some b → a ≡ b
use_same a b e = cc

pub short_at : (uses : List (ℕ × Use)) (k : ℕ) (u : ℕ × Use) → HaveShortNames uses → slice_get uses k ≡ Some u → length u.1.name ≤ 255
short_at [] k u short e = absurd cc
short_at (x ∷ uses) zero u short e = subst (λ (y : ℕ × Use). length y.1.name ≤ 255) (use_same x u e) short.0
short_at (x ∷ uses) (suc k) u short e = short_at uses k u short.1 e
