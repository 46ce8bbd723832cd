-- A segment has patches where a record of it gives one.
use Rattle.std.proofs.Common.{◌≡◌, ℕ, Bool, true, false, List, [], ◌∷◌, ◌++◌, map, refl, sym, ap, ◌∙◌}
use Rattle.std.specs.Prelude.{is_some, ◌||◌}
use Rattle.std.specs.List.{flat_map, list_any}
use Rattle.std.proofs.lemmas.List.Concat.{flat_map-cons}
use Rattle.omf_format.specs.Super.{locations_left}
use Rattle.omf_format.specs.Record.{Record, End, Const, LongConst, Align, Org, Space, Reloc, InterSeg, ShortReloc, ShortInterSeg, Super, Using, Strong, Label, Equate, Formula, Entry}
use Rattle.omf_format.specs.File.{Segment}
use Rattle.load_meaning.specs.Cells.{Patch, super_patch, patches_in, patches_of}
use Rattle.omf_records.specs.View.{first}
use Rattle.load_content.specs.Walk.{gives_patch}

super_some : (s : Segment) (form : ℕ) (locations : List ℕ) → is_some (first locations) ≡ true → map (super_patch s form) locations ≡ [] → ⊥
super_some s form [] is none = cc
super_some s form (at ∷ locations) is none = cc

super_none : (s : Segment) (form : ℕ) (locations : List ℕ) → is_some (first locations) ≡ false → map (super_patch s form) locations ≡ []
super_none s form [] is = refl
super_none s form (at ∷ locations) is = absurd cc

some_patch : (s : Segment) (r : Record) → gives_patch r ≡ true → patches_in s r ≡ [] → ⊥
some_patch s (Reloc count shift location offset) is none = cc
some_patch s (InterSeg count shift location file segment offset) is none = cc
some_patch s (ShortReloc count shift location offset) is none = cc
some_patch s (ShortInterSeg count shift location segment offset) is none = cc
some_patch s (Super form bytes) is none = super_some s form (locations_left 0 0 bytes) is none
some_patch s End is none = cc
some_patch s (Const bytes) is none = cc
some_patch s (LongConst bytes) is none = cc
some_patch s (Space n) is none = cc
some_patch s (Align n) is none = cc
some_patch s (Org n) is none = cc
some_patch s (Using name) is none = cc
some_patch s (Strong name) is none = cc
some_patch s (Label global name size form private) is none = cc
some_patch s (Equate global name size form private expr) is none = cc
some_patch s (Formula code count n expr) is none = cc
some_patch s (Entry segment offset name) is none = cc

no_patch : (s : Segment) (r : Record) → gives_patch r ≡ false → patches_in s r ≡ []
no_patch s (Reloc count shift location offset) is = absurd cc
no_patch s (InterSeg count shift location file segment offset) is = absurd cc
no_patch s (ShortReloc count shift location offset) is = absurd cc
no_patch s (ShortInterSeg count shift location segment offset) is = absurd cc
no_patch s (Super form bytes) is = super_none s form (locations_left 0 0 bytes) is
no_patch s End is = refl
no_patch s (Const bytes) is = refl
no_patch s (LongConst bytes) is = refl
no_patch s (Space n) is = refl
no_patch s (Align n) is = refl
no_patch s (Org n) is = refl
no_patch s (Using name) is = refl
no_patch s (Strong name) is = refl
no_patch s (Label global name size form private) is = refl
no_patch s (Equate global name size form private expr) is = refl
no_patch s (Formula code count n expr) is = refl
no_patch s (Entry segment offset name) is = refl

-- the patches of a record, with its displacement
abbrev placed_patches : Segment → ℕ × Record → List (ℕ × Patch)
placed_patches s found = map (λ p. (found.0, p)) (patches_in s found.1)

abbrev gives : ℕ × Record → Bool
gives found = gives_patch found.1

both_empty : (xs : List Patch) (at : ℕ) (ys : List (ℕ × Patch)) → map (λ p. (at, p)) xs ++ ys ≡ [] → (xs ≡ []) × (ys ≡ [])
both_empty [] at ys e = (refl, e)
both_empty (x ∷ xs) at ys e = absurd cc

some_in : (s : Segment) (founds : List (ℕ × Record)) → list_any gives founds ≡ true → flat_map (placed_patches s) founds ≡ [] → ⊥
some_in s [] is none = cc
some_in s (found ∷ founds) is none =
    let parts = both_empty (patches_in s found.1) found.0 (flat_map (placed_patches s) founds) (sym (flat_map-cons (placed_patches s) found founds) ∙ none) in
    by_first (gives found) refl is parts.0 (λ any. some_in s founds any parts.1)
  where
    by_first : (b : Bool) → gives found ≡ b → (b || list_any gives founds) ≡ true → patches_in s found.1 ≡ [] → (list_any gives founds ≡ true → ⊥) → ⊥
    by_first true here any none more = some_patch s found.1 here none
    by_first false here any none more = more any

none_in : (s : Segment) (founds : List (ℕ × Record)) → list_any gives founds ≡ false → flat_map (placed_patches s) founds ≡ []
none_in s [] is = refl
none_in s (found ∷ founds) is = by_first (gives found) refl is (none_in s founds)
  where
    by_first : (b : Bool) → gives found ≡ b → (b || list_any gives founds) ≡ false → (list_any gives founds ≡ false → flat_map (placed_patches s) founds ≡ []) → flat_map (placed_patches s) (found ∷ founds) ≡ []
    by_first true here any more = absurd cc
    by_first false here any more =
        flat_map-cons (placed_patches s) found founds
        ∙ ap (λ (l : List Patch). map (λ (p : Patch). (found.0, p)) l ++ flat_map (placed_patches s) founds) (no_patch s found.1 here)
        ∙ more any

pub has_some : (s : Segment) → list_any (λ found. gives_patch found.1) s.records ≡ true → patches_of s ≡ [] → ⊥
unfolding patches_of
has_some s is none = some_in s s.records is none

pub has_none : (s : Segment) → list_any (λ found. gives_patch found.1) s.records ≡ false → patches_of s ≡ []
unfolding patches_of
has_none s is = none_in s s.records is
