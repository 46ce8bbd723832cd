-- The names of parameters.
use Rattle.std.proofs.Common.{◌≡◌, ◌≤◌, ◌+◌, ℕ, List, [], ◌∷◌, ◌++◌, length, Option, Some, None, refl, sym, ap, ◌∙◌, append_assoc, append-nil}
use Rattle.std.specs.Prelude.{slice_get, drop}
use Rattle.macro_meaning.specs.Definition.{names_of}
use Rattle.macro_meaning.specs.laws.Steps.{one_more}
use Rattle.macro_meaning.specs.Statements.{symbol_name}
use Rattle.orca_symbols.proofs.Parted.{drop_next, drop_all}

-- names before others that may be none
pub with_names : List (List ℕ) → Option (List (List ℕ)) → Option (List (List ℕ))
with_names names None = None
with_names names (Some others) = Some (names ++ others)

pub names_start : (pieces names : List (List ℕ)) → names ≡ [] → with_names names (names_of (drop 0 pieces)) ≡ names_of pieces
unfolding with_names
names_start pieces names e = ap (λ (n : List (List ℕ)). with_names n (names_of pieces)) e ∙ same (names_of pieces)
  where
    same : (rest : Option (List (List ℕ))) → with_names [] rest ≡ rest
    same None = refl
    same (Some others) = refl

pub names_next : (pieces : List (List ℕ)) (at : ℕ) (piece name : List ℕ) (old new : List (List ℕ)) (whole : Option (List (List ℕ))) → slice_get pieces at ≡ Some piece → symbol_name piece ≡ Some name
    → new ≡ old ++ name ∷ [] → with_names old (names_of (drop at pieces)) ≡ whole → with_names new (names_of (drop (at + 1) pieces)) ≡ whole
unfolding with_names names_of
names_next pieces at piece name old new whole is found push so =
    more (names_of (drop (at + 1) pieces))
    ∙ ap (λ (n : Option (List ℕ)). with_names old (one_more n (names_of (drop (at + 1) pieces)))) (sym found)
    ∙ ap (λ (l : List (List ℕ)). with_names old (names_of l)) (sym (drop_next pieces at piece is)) ∙ so
  where
    more : (rest : Option (List (List ℕ))) → with_names new rest ≡ with_names old (one_more (Some name) rest)
    more None = refl
    more (Some others) = ap (λ (n : List (List ℕ)). Some n) (ap (λ (n : List (List ℕ)). n ++ others) push ∙ append_assoc old (name ∷ []) others)

pub names_none : (pieces : List (List ℕ)) (at : ℕ) (piece : List ℕ) (old : List (List ℕ)) (whole : Option (List (List ℕ))) → slice_get pieces at ≡ Some piece → symbol_name piece ≡ None
    → with_names old (names_of (drop at pieces)) ≡ whole → whole ≡ None
unfolding with_names names_of
names_none pieces at piece old whole is none so =
    sym so ∙ ap (λ (l : List (List ℕ)). with_names old (names_of l)) (drop_next pieces at piece is) ∙ ap (λ (n : Option (List ℕ)). with_names old (one_more n (names_of (drop (at + 1) pieces)))) none

pub names_end : (pieces : List (List ℕ)) (at : ℕ) (names : List (List ℕ)) (whole : Option (List (List ℕ))) → length pieces ≤ at → with_names names (names_of (drop at pieces)) ≡ whole → whole ≡ Some names
unfolding with_names names_of
names_end pieces at names whole end so =
    sym so ∙ ap (λ (l : List (List ℕ)). with_names names (names_of l)) (drop_all pieces at end) ∙ ap (λ (n : List (List ℕ)). Some n) (append-nil names)
