-- The places of a sequence symbol.
use Rattle.std.proofs.Common.{◌≡◌, ℕ, zero, suc, ◌+◌, Bool, true, false, cond, List, [], ◌∷◌, ◌++◌, length, take, Option, Some, None, refl, sym, ap, ◌∙◌, arith}
use Rattle.std.specs.Prelude.{slice_get}
use Rattle.orca_meaning.specs.Line.{Line}
use Rattle.macro_meaning.specs.Visit.{places_from, has_sequence}
use Rattle.macro_meaning.specs.laws.Steps.{only_one}
use Rattle.orca_macro.specs.declared.body.BranchTarget.{BranchTarget}
use Rattle.orca_macro.specs.declared.body.BranchTarget.TheVariants.{Once, Twice}
use Rattle.orca_macro.specs.DefinitionView.{summary, with_place}

-- one more line at the end
pub take_next : {A : Type 0} (l : List A) (i : ℕ) (x : A) → slice_get l i ≡ Some x → take (i + 1) l ≡ take i l ++ x ∷ []
take_next {A = A} [] i x is = absurd cc
take_next {A = A} (y ∷ l) zero x is = let same : y ≡ x = cc in ap (λ (z : A). z ∷ []) same
take_next {A = A} (y ∷ l) (suc i) x is = let more : suc i + 1 ≡ suc (i + 1) = omega arith in rw more (ap (λ (k : List A). y ∷ k) (take_next l i x is))

summary-more : (ps : List ℕ) (at : ℕ) → summary (ps ++ at ∷ []) ≡ with_place at (summary ps)
summary-more [] at = refl
summary-more (p ∷ []) at = refl
summary-more (p ∷ q ∷ ps) at = refl

places-more : (at : ℕ) (name : List ℕ) (lines : List Line) (line : Line)
    → summary (places_from at name (lines ++ line ∷ [])) ≡ cond (has_sequence name line) (with_place (at + length lines) (summary (places_from at name lines))) (summary (places_from at name lines))
unfolding places_from
places-more at name lines line = by_test (has_sequence name line) refl
  where
    with_it : (b : Bool) → List ℕ → ℕ → List ℕ
    with_it true ps k = ps ++ k ∷ []
    with_it false ps k = ps

    both : (b : Bool) (at : ℕ) (lines : List Line) → has_sequence name line ≡ b → places_from at name (lines ++ line ∷ []) ≡ with_it b (places_from at name lines) (at + length lines)
    both true at [] is = let here : at + 0 ≡ at = omega arith in rw (is, here) refl
    both false at [] is = rw is refl
    both b at (l ∷ lines) is = by_first (has_sequence name l) (both b (at + 1) lines is)
      where
        further : (k : ℕ) (m : ℕ) → k ≡ m → (c : Bool) (ps : List ℕ) → with_it c ps k ≡ with_it c ps m
        further k m e c ps = ap (with_it c ps) e

        inside : (c : Bool) (ps : List ℕ) (k : ℕ) → at ∷ with_it c ps k ≡ with_it c (at ∷ ps) k
        inside true ps k = refl
        inside false ps k = refl

        by_first : (c : Bool) → places_from (at + 1) name (lines ++ line ∷ []) ≡ with_it b (places_from (at + 1) name lines) (at + 1 + length lines)
            → cond c (at ∷ places_from (at + 1) name (lines ++ line ∷ [])) (places_from (at + 1) name (lines ++ line ∷ []))
            ≡ with_it b (cond c (at ∷ places_from (at + 1) name lines) (places_from (at + 1) name lines)) (at + length (l ∷ lines))
        by_first true is' = ap (λ (ps : List ℕ). at ∷ ps) is' ∙ inside b (places_from (at + 1) name lines) (at + 1 + length lines) ∙ further (at + 1 + length lines) (at + length (l ∷ lines)) (omega arith) b (at ∷ places_from (at + 1) name lines)
        by_first false is' = is' ∙ further (at + 1 + length lines) (at + length (l ∷ lines)) (omega arith) b (places_from (at + 1) name lines)

    by_test : (b : Bool) → has_sequence name line ≡ b
        → summary (places_from at name (lines ++ line ∷ [])) ≡ cond b (with_place (at + length lines) (summary (places_from at name lines))) (summary (places_from at name lines))
    by_test true is = ap summary (both true at lines is) ∙ summary-more (places_from at name lines) (at + length lines)
    by_test false is = ap summary (both false at lines is)

-- one more line after the first `at`
pub more_places : (name : List ℕ) (lines : List Line) (line : Line) (at : ℕ) (old new : Option BranchTarget) → slice_get lines at ≡ Some line → length (take at lines) ≡ at
    → old ≡ summary (places_from 0 name (take at lines)) → new ≡ cond (has_sequence name line) (with_place at old) old → new ≡ summary (places_from 0 name (take (at + 1) lines))
more_places name lines line at old new is size old_is new_is =
    new_is ∙ ap (λ (o : Option BranchTarget). cond (has_sequence name line) (with_place at o) o) old_is
    ∙ ap (λ (k : ℕ). cond (has_sequence name line) (with_place k (summary (places_from 0 name (take at lines)))) (summary (places_from 0 name (take at lines)))) (sym size ∙ plus)
    ∙ sym (places-more 0 name (take at lines) line) ∙ ap (λ (l : List Line). summary (places_from 0 name l)) (sym (take_next lines at line is))
  where
    plus : length (take at lines) ≡ 0 + length (take at lines)
    plus = omega arith

-- ---- what is found

pub found_once : (ps : List ℕ) (place : ℕ) → summary ps ≡ Some (Once place) → only_one ps ≡ Some place
found_once [] place is = absurd cc
found_once (p ∷ []) place is = let same : Once p ≡ Once place = cc in ap (λ (k : ℕ). Some k) (place_of p place same)
  where
    place_of : (p q : ℕ) → Once p ≡ Once q → p ≡ q
    place_of p q e = cc
found_once (p ∷ q ∷ ps) place is = absurd cc

pub found_twice : (ps : List ℕ) → summary ps ≡ Some Twice → only_one ps ≡ None
found_twice [] is = absurd cc
found_twice (p ∷ []) is = absurd cc
found_twice (p ∷ q ∷ ps) is = refl

pub found_none : (ps : List ℕ) → summary ps ≡ None → only_one ps ≡ None
found_none [] is = refl
found_none (p ∷ []) is = absurd cc
found_none (p ∷ q ∷ ps) is = absurd cc

-- no lines
pub no_places : (name : List ℕ) (o : Option BranchTarget) → o ≡ None → o ≡ summary (places_from 0 name [])
unfolding places_from
no_places name o is = is
