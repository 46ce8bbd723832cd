-- Targets at places.
use Rattle.std.proofs.Common.{◌≡◌, ℕ, zero, suc, Bool, true, false, ◌&&◌, ◌||◌, ◌==◌, ◌+◌, List, [], ◌∷◌, ◌++◌, map, All, Option, Some, None, IfSome, IfNone, is_some, Result, Ok, Err, IfOk, refl, sym, ap, subst, ◌∙◌, arith, get_or}
use Rattle.std.specs.Prelude.{slice_get, position}
use Rattle.std.specs.List.{list_any}
use Rattle.std.proofs.lemmas.Bool.{and_parts, eqb-true, eq-eqb}
use Rattle.std.proofs.lemmas.List.Elements.{All-head, All-tail}
use Rattle.std.proofs.lemmas.List.Quantifiers.{position-Some}
use Rattle.std.proofs.lemmas.Option.{slice_get-get_or}
use Rattle.load_meaning.specs.declared.table.Target.{Target}
use Rattle.load_meaning.specs.declared.table.Entry.{Entry}
use Rattle.load_meaning.specs.Table.{is_same, with_target, IsAtPlace, file_entry, FitsEntry, table_bytes, IsTableOf}
use Rattle.load_meaning.specs.laws.TableLaws.{table_laid_out}
use Rattle.jump_table.specs.Targets.{FitsTarget}

pub same_self : (t : Target) → is_same t t ≡ true
same_self t = all (t.file == t.file) (t.segment == t.segment) (t.offset == t.offset) (eq-eqb t.file t.file refl) (eq-eqb t.segment t.segment refl) (eq-eqb t.offset t.offset refl)
  where
    all : (a b c : Bool) → a ≡ true → b ≡ true → c ≡ true → (a && (b && c)) ≡ true
    all a b c p q r = rw (p, q, r) refl

pub same_is : (a b : Target) → is_same a b ≡ true → a ≡ b
same_is a b e =
    let first = and_parts (a.file == b.file) (a.segment == b.segment && a.offset == b.offset) e in
    let rest = and_parts (a.segment == b.segment) (a.offset == b.offset) first.1 in
    same (eqb-true a.file b.file first.0) (eqb-true a.segment b.segment rest.0) (eqb-true a.offset b.offset rest.1)
  where
    same : a.file ≡ b.file → a.segment ≡ b.segment → a.offset ≡ b.offset → a ≡ b
    same p q r =
        ap (λ (n : ℕ). let t : Target = record { file = n; segment = a.segment; offset = a.offset } in t) p
        ∙ ap (λ (n : ℕ). let t : Target = record { file = b.file; segment = n; offset = a.offset } in t) q
        ∙ ap (λ (n : ℕ). let t : Target = record { file = b.file; segment = b.segment; offset = n } in t) r

-- a target that is found is at its place
pub found_at : (targets : List Target) (t : Target) (k : ℕ) → position (is_same t) targets ≡ Some k → IsAtPlace targets t k
found_at targets t k e =
    let found = position-Some (is_same t) targets k t e in
    slice_get-get_or targets k t found.0 ∙ ap (λ (x : Target). Some x) (sym (same_is t (get_or targets k t) found.1))

-- one that isn't found is at none
pub found_nowhere : (targets : List Target) (t : Target) → list_any (is_same t) targets ≡ false → (k : ℕ) → ¬ IsAtPlace targets t k
found_nowhere [] t none k there = cc
found_nowhere (x ∷ targets) t none zero there =
    let same : x ≡ t = cc in
    let yes : is_same t x ≡ true = ap (is_same t) same ∙ same_self t in
    let no : is_same t x ≡ false = first_false (is_same t x) (list_any (is_same t) targets) none in
    cc
  where
    first_false : (a b : Bool) → (a || b) ≡ false → a ≡ false
    first_false true b e = e
    first_false false b e = refl
found_nowhere (x ∷ targets) t none (suc k) there = found_nowhere targets t (rest_false (is_same t x) (list_any (is_same t) targets) none) k there
  where
    rest_false : (a b : Bool) → (a || b) ≡ false → b ≡ false
    rest_false true b e = absurd cc
    rest_false false b e = e

-- what a look-up gives
pub found_in : (targets : List Target) (t : Target) (o : Option ℕ) → o ≡ position (is_same t) targets → IfSome o (λ k. IsAtPlace targets t k)
found_in targets t None e = tt
found_in targets t (Some k) e = found_at targets t k (sym e)

pub found_none : (targets : List Target) (t : Target) (o : Option ℕ) → is_some o ≡ list_any (is_same t) targets → IfNone o ((k : ℕ) → ¬ IsAtPlace targets t k)
found_none targets t None e = found_nowhere targets t (sym e)
found_none targets t (Some k) e = tt

-- a target at no place isn't found
pub none_found : (targets : List Target) (t : Target) → ((k : ℕ) → ¬ IsAtPlace targets t k) → list_any (is_same t) targets ≡ false
none_found [] t none = refl
none_found (x ∷ targets) t none = go (is_same t x) refl (none_found targets t (λ k there. none (suc k) there))
  where
    go : (b : Bool) → is_same t x ≡ b → list_any (is_same t) targets ≡ false → (b || list_any (is_same t) targets) ≡ false
    go true e rest = absurd (none 0 (ap (λ (y : Target). Some y) (sym (same_is t x e))))
    go false e rest = rest

-- such a target goes to the end
pub with_new : (targets : List Target) (t : Target) → ((k : ℕ) → ¬ IsAtPlace targets t k) → with_target targets t ≡ targets ++ t ∷ []
with_new targets t none = rw (none_found targets t none) refl

-- ---- one more target

-- the entries of targets whose numbers fit do fit
pub entries_fit : (targets : List Target) → All FitsTarget targets → (k : ℕ) (entry : Entry) → slice_get (map file_entry targets) k ≡ Some entry → FitsEntry entry
entries_fit [] fits k entry is = absurd cc
entries_fit (t ∷ targets) fits zero entry is =
    let fit : FitsTarget t = All-head FitsTarget t targets fits in
    let same : file_entry t ≡ entry = cc in
    subst FitsEntry same (record { user = omega arith; file = fit.file; segment = fit.segment; offset = fit.offset; loaded = tt })
entries_fit (t ∷ targets) fits (suc k) entry is = entries_fit targets (All-tail FitsTarget t targets fits) k entry is

-- what the bytes of a table are, where there are any
pub laid_out_in : {X E : Type 0} (items : X → List ℕ) (targets : List Target) (r : Result X E) → All FitsTarget targets
    → IfOk r (λ x. items x ≡ table_bytes (map file_entry targets)) → IfOk r (λ x. IsTableOf (map file_entry targets) (items x))
laid_out_in items targets (Ok x) fits is = rw is (table_laid_out (map file_entry targets) (entries_fit targets fits))
laid_out_in items targets (Err e) fits is = tt
