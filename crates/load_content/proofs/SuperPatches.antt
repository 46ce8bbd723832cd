-- The patches of a SUPER, one after another.
use Rattle.std.proofs.Common.{◌≡◌, ℕ, ◌+◌, true, eqb, ltb, leb, List, [], ◌∷◌, ◌++◌, map, Option, Some, None, refl, sym, ap, subst, ◌∙◌, append_assoc, inl, inr}
use Rattle.std.specs.Option.{option_or}
use Rattle.std.proofs.lemmas.Bool.{cases_Bool, eqb-true}
use Rattle.std.proofs.lemmas.List.{append-nil}
use Rattle.load_meaning.specs.declared.load.LoadCause.{LoadCause}
use Rattle.load_meaning.specs.declared.load.LoadCause.TheVariants.{PatchOutside}
use Rattle.omf_format.specs.File.{Segment}
use Rattle.load_meaning.specs.Cells.{Cell, Patch, super_patch}
use Rattle.load_meaning.specs.Loadable.{patch_refusal, first_refusal}
use Rattle.omf_records.specs.View.{first, bytes_after_first}
use Rattle.load_content.specs.Content.{super_count, cells_of_patch, spread_all}

-- where a patch of a SUPER is, and how many bytes it has
super_place : (s : Segment) (form at : ℕ) → ((super_patch s form at).location ≡ at) × ((super_patch s form at).count ≡ super_count form)
super_place s form at = elim (cases_Bool (eqb form 0)) [
  | inl is ↦ subst (λ (n : ℕ). ((super_patch s n at).location ≡ at) × ((super_patch s n at).count ≡ super_count n)) (sym (eqb-true form 0 is)) (refl, refl)
  | inr not0 ↦ elim (cases_Bool (eqb form 1)) [
    | inl is ↦ subst (λ (n : ℕ). ((super_patch s n at).location ≡ at) × ((super_patch s n at).count ≡ super_count n)) (sym (eqb-true form 1 is)) (refl, refl)
    | inr not1 ↦ elim (cases_Bool (eqb form 2)) [
      | inl is ↦ subst (λ (n : ℕ). ((super_patch s n at).location ≡ at) × ((super_patch s n at).count ≡ super_count n)) (sym (eqb-true form 2 is)) (refl, refl)
      | inr not2 ↦ elim (cases_Bool (leb form 25)) [
        | inl low ↦ rw (not0, not1, not2, low) (refl, refl)
        | inr high ↦ rw (not0, not1, not2, high) (refl, refl)
      ]
    ]
  ]
]

pub outside_patch : (segments : List Segment) (s : Segment) (p : Patch) → ltb s.fields.length (p.location + p.count) ≡ true → first_refusal segments s (p ∷ []) ≡ Some PatchOutside
unfolding patch_refusal
outside_patch segments s p e = rw e refl

-- a patch of a SUPER that reaches past LENGTH
pub outside_super : (segments : List Segment) (s : Segment) (form at : ℕ) → ltb s.fields.length (at + super_count form) ≡ true → first_refusal segments s (super_patch s form at ∷ []) ≡ Some PatchOutside
outside_super segments s form at e =
    let place = super_place s form at in
    outside_patch segments s (super_patch s form at)
    (ap (λ (n : ℕ). ltb s.fields.length (n + (super_patch s form at).count)) place.0 ∙ ap (λ (n : ℕ). ltb s.fields.length (at + n)) place.1 ∙ e)

-- ---- one after another

-- where the first patch is allowed there, the others decide
pub passed_one : (segments : List Segment) (s : Segment) (p : Patch) (patches : List Patch) → first_refusal segments s (p ∷ []) ≡ None → first_refusal segments s (p ∷ patches) ≡ first_refusal segments s patches
passed_one segments s p patches e = by_cause (patch_refusal segments s p) e
  where
    by_cause : (o : Option LoadCause) → option_or o None ≡ None → option_or o (first_refusal segments s patches) ≡ first_refusal segments s patches
    by_cause None e' = refl
    by_cause (Some cause) e' = absurd cc

some_number : (a b : ℕ) → Some a ≡ Some b → a ≡ b
some_number a b e = cc

module _ (segments : List Segment) (s : Segment) (form : ℕ) where
  abbrev f : ℕ → Patch
  f = super_patch s form

  pub refusal_next : (x : ℕ) (at next : List ℕ) → first at ≡ Some x → next ≡ bytes_after_first at → first_refusal segments s (f x ∷ []) ≡ None
      → first_refusal segments s (map f at) ≡ first_refusal segments s (map f next)
  refusal_next x [] next is moved none = absurd cc
  refusal_next x (y ∷ at) next is moved none =
      let same : y ≡ x = some_number y x is in
      passed_one segments s (f y) (map f at) (ap (λ (z : ℕ). first_refusal segments s (f z ∷ [])) same ∙ none)
      ∙ ap (λ l. first_refusal segments s (map f l)) (sym moved)

  pub spread_more : (x : ℕ) (at next : List ℕ) (old new : List (ℕ × Cell)) → first at ≡ Some x → next ≡ bytes_after_first at → new ≡ old ++ spread_all (f x ∷ [])
      → new ++ spread_all (map f next) ≡ old ++ spread_all (map f at)
  spread_more x [] next old new is moved added = absurd cc
  spread_more x (y ∷ at) next old new is moved added =
      let same : x ≡ y = sym (some_number y x is) in
      ap (λ l. new ++ spread_all (map f l)) moved
      ∙ ap (λ l. l ++ spread_all (map f at)) (added ∙ ap (λ l. old ++ l) (append-nil (cells_of_patch (f x))) ∙ ap (λ (z : ℕ). old ++ cells_of_patch (f z)) same)
      ∙ append_assoc old (cells_of_patch (f y)) (spread_all (map f at))
