-- The first definition of a name.
use Rattle.std.proofs.Common.{◌≡◌, ◌≤◌, ◌<◌, ◌+◌, ℕ, zero, suc, Bool, true, false, cond, List, [], ◌∷◌, ◌++◌, take, length, Option, Some, None, refl, sym, ap, ◌∙◌, arith}
use Rattle.std.specs.Prelude.{bytes_eq, slice_get}
use Rattle.std.specs.Cmp.Lexicographic.{bytes_decides}
use Rattle.std.proofs.lemmas.List.{length-take}
use Rattle.macro_meaning.specs.Definition.{MacroDefinition, first_named, or_else}
use Rattle.macro_meaning.specs.laws.Steps.{next_place}
use Rattle.orca_macro.proofs.Targets.{take_next}

-- a name that is there keeps its place
pub stays : (name q : List ℕ) (at x : ℕ) (held : List ℕ → Option ℕ) → held name ≡ Some x → held q ≡ or_else (held q) (cond (bytes_eq name q) (Some at) None)
stays name q at x held is = by_test (bytes_eq name q) refl (held q) refl
  where
    by_test : (b : Bool) → bytes_eq name q ≡ b → (o : Option ℕ) → held q ≡ o → o ≡ or_else o (cond b (Some at) None)
    by_test b test (Some y) here = refl
    by_test false test None here = refl
    by_test true test None here =
        let same : held name ≡ held q = ap held ((bytes_decides name q).0 test) in
        let clash : Some x ≡ None = sym is ∙ same ∙ here in absurd cc

-- a new one gets it
pub comes : (name q : List ℕ) (at : ℕ) (old new : List ℕ → Option ℕ) → old name ≡ None → new q ≡ cond (bytes_eq name q) (Some at) (old q) → new q ≡ or_else (old q) (cond (bytes_eq name q) (Some at) None)
comes name q at old new none is = is ∙ by_test (bytes_eq name q) refl (old q) refl
  where
    by_test : (b : Bool) → bytes_eq name q ≡ b → (o : Option ℕ) → old q ≡ o → cond b (Some at) o ≡ or_else o (cond b (Some at) None)
    by_test true test None here = refl
    by_test false test None here = refl
    by_test false test (Some y) here = refl
    by_test true test (Some y) here =
        let same : old name ≡ old q = ap old ((bytes_decides name q).0 test) in
        let clash : None ≡ Some y = sym none ∙ same ∙ here in absurd cc

first-more : (q : List ℕ) (ds : List MacroDefinition) (d : MacroDefinition) → first_named q (ds ++ d ∷ []) ≡ or_else (first_named q ds) (cond (bytes_eq d.model.name q) (Some (length ds)) None)
unfolding first_named
first-more q [] d = by_test (bytes_eq d.model.name q)
  where
    by_test : (b : Bool) → cond b (Some 0) (next_place None) ≡ or_else None (cond b (Some 0) None)
    by_test true = refl
    by_test false = refl
first-more q (x ∷ ds) d = by_tests (bytes_eq x.model.name q) (bytes_eq d.model.name q) (first_named q ds) (first_named q (ds ++ d ∷ [])) (first-more q ds d)
  where
    last : (b : Bool) (o : Option ℕ) → next_place (or_else o (cond b (Some (length ds)) None)) ≡ or_else (next_place o) (cond b (Some (length (x ∷ ds))) None)
    last b (Some k) = refl
    last false None = refl
    last true None = let e : length ds + 1 ≡ length (x ∷ ds) = omega arith in ap (λ (k : ℕ). Some k) e

    by_tests : (c b : Bool) (o p : Option ℕ) → p ≡ or_else o (cond b (Some (length ds)) None) → cond c (Some 0) (next_place p) ≡ or_else (cond c (Some 0) (next_place o)) (cond b (Some (length (x ∷ ds))) None)
    by_tests true b o p is = refl
    by_tests false b o p is = ap next_place is ∙ last b o

-- one more definition
pub next_name : (q : List ℕ) (ds : List MacroDefinition) (at : ℕ) (d : MacroDefinition) (old new : Option ℕ) → slice_get ds at ≡ Some d → at ≤ length ds → old ≡ first_named q (take at ds)
    → new ≡ or_else old (cond (bytes_eq d.model.name q) (Some at) None) → new ≡ first_named q (take (at + 1) ds)
next_name q ds at d old new is few old_is new_is =
    let size : length (take at ds) ≡ at = omega (arith, few, length-take at ds) in
    new_is ∙ ap (λ (o : Option ℕ). or_else o (cond (bytes_eq d.model.name q) (Some at) None)) old_is
    ∙ ap (λ (k : ℕ). or_else (first_named q (take at ds)) (cond (bytes_eq d.model.name q) (Some k) None)) (sym size)
    ∙ sym (first-more q (take at ds) d) ∙ ap (first_named q) (sym (take_next ds at d is))

pub all_names : (q : List ℕ) (ds : List MacroDefinition) (at : ℕ) (o : Option ℕ) → length ds ≤ at → o ≡ first_named q (take at ds) → o ≡ first_named q ds
all_names q ds at o end is = is ∙ ap (first_named q) (all ds at end)
  where
    all : (l : List MacroDefinition) (i : ℕ) → length l ≤ i → take i l ≡ l
    all [] zero end = refl
    all [] (suc i) end = refl
    all (x ∷ l) zero end = absurd (omega (arith, end))
    all (x ∷ l) (suc i) end = ap (λ (k : List MacroDefinition). x ∷ k) (all l i (omega (arith, end)))

-- it is one of them
pub within : (q : List ℕ) (ds : List MacroDefinition) (k : ℕ) → first_named q ds ≡ Some k → k < length ds
unfolding first_named
within q [] k is = absurd cc
within q (x ∷ ds) k is = by_test (bytes_eq x.model.name q) (first_named q ds) (within q ds) is
  where
    some_is : (a b : ℕ) → Some a ≡ Some b → a ≡ b
    some_is a b e = cc

    by_test : (b : Bool) (o : Option ℕ) → ((j : ℕ) → o ≡ Some j → j < length ds) → cond b (Some 0) (next_place o) ≡ Some k → k < length (x ∷ ds)
    by_test true o others e = let e' : 0 ≡ k = some_is 0 k e in omega (arith, e')
    by_test false None others e = absurd cc
    by_test false (Some j) others e = let e' : j + 1 ≡ k = some_is (j + 1) k e in let less : j < length ds = others j refl in omega (arith, e', less)

pub no_first : (q : List ℕ) (o : Option ℕ) → o ≡ None → o ≡ first_named q []
unfolding first_named
no_first q o is = is
