-- Where no field of a pathname segment is wrong, it has rows.
use Rattle.std.proofs.Common.{◌≡◌, ℕ, zero, suc, ◌+◌, ◌≤◌, Bool, true, false, eqb, ltb, List, [], ◌∷◌, length, take, drop, replicate, Option, Some, None, refl, sym, ap, subst, ◌∙◌, arith}
use Rattle.std.specs.Prelude.{◌&&◌, ◌||◌, not, if◌then◌else◌}
use Rattle.std.specs.List.{list_all}
use Rattle.std.specs.Option.{option_or}
use Rattle.std.proofs.lemmas.Bool.{and_parts, not-false, eqb-true, eqb-false, ltb-true, ltb-false}
use Rattle.std.proofs.lemmas.List.{length-drop, length-take}
use Rattle.omf_format.specs.Number.{number_at}
use Rattle.load_meaning.specs.Pathnames.{most_paths, is_path_byte, IsRow, AreRows, ArePaths, path_start, path_size, first_path, after_path, paths_in, row_flaw, end_flaw, rows_flaw}

if_none : (c : Bool) (x : ℕ) (y : Option ℕ) → (if c then Some x else y) ≡ None → (c ≡ false) × (y ≡ None)
if_none true x y e = absurd cc
if_none false x y e = (refl, e)

none_both : (a b : Option ℕ) → option_or a b ≡ None → (a ≡ None) × (b ≡ None)
none_both None b e = (refl, e)
none_both (Some x) b e = absurd cc

neither : (x y : Bool) → (x || y) ≡ false → (x ≡ false) × (y ≡ false)
neither true y e = absurd cc
neither false y e = (refl, e)

zeros_are : (bytes : List ℕ) → list_all (λ b. eqb b 0) bytes ≡ true → bytes ≡ replicate (length bytes) 0
zeros_are [] e = refl
zeros_are (b ∷ bytes) e =
    let both = and_parts (eqb b 0) (list_all (λ c. eqb c 0) bytes) e in
    ap (λ (x : ℕ). x ∷ bytes) (eqb-true b 0 both.0) ∙ ap (λ (l : List ℕ). 0 ∷ l) (zeros_are bytes both.1)

-- a row of which no field is wrong
row_is : (number at : ℕ) (bytes : List ℕ) → number_at 2 0 bytes ≡ number → row_flaw at bytes ≡ None → IsRow number (first_path bytes) bytes × (length (first_path bytes) ≡ path_size bytes)
row_is number at bytes is e =
    let zeros = if_none (ltb (length bytes) 10 || not (list_all (λ b. eqb b 0) (take 8 (drop 2 bytes)))) (at + 2) _ e in
    let size = if_none (ltb (length bytes) path_start || eqb (path_size bytes) 0) (at + 10) _ zeros.1 in
    let path = if_none (ltb (length bytes) (path_start + path_size bytes) || not (list_all is_path_byte (first_path bytes))) (at + path_start) None size.1 in
    let eight = neither (ltb (length bytes) 10) (not (list_all (λ b. eqb b 0) (take 8 (drop 2 bytes)))) zeros.0 in
    let some = neither (ltb (length bytes) path_start) (eqb (path_size bytes) 0) size.0 in
    let long = neither (ltb (length bytes) (path_start + path_size bytes)) (not (list_all is_path_byte (first_path bytes))) path.0 in
    let room : path_start + path_size bytes ≤ length bytes = ltb-false (length bytes) (path_start + path_size bytes) long.0 in
    let len : length (first_path bytes) ≡ path_size bytes = omega (arith, length-take (path_size bytes) (drop path_start bytes), length-drop path_start bytes, room) in
    let front : length (take 8 (drop 2 bytes)) ≡ 8 = omega (arith, length-take 8 (drop 2 bytes), length-drop 2 bytes, room) in (
      record {
        inside = omega (arith, len, room);
        number' = is;
        zeros = zeros_are (take 8 (drop 2 bytes)) (not-false _ eight.1) ∙ ap (λ (n : ℕ). replicate n 0) front;
        size = sym len;
        path' = ap (λ (n : ℕ). take n (drop path_start bytes)) len;
        some = omega (arith, len, eqb-false (path_size bytes) 0 some.1);
        plain = not-false _ long.1;
      },
      len,
    )

-- the number at the start: 0 after a row, with nothing after it, or a row's
data Ends (rows : ℕ) (bytes : List ℕ) (row : Option ℕ) : Type 0 where
  AtZero : number_at 2 0 bytes ≡ 0 → length bytes ≡ 2 → 1 ≤ rows → Ends rows bytes row
  AtRow : row ≡ None → Ends rows bytes row

ends : (rows at : ℕ) (bytes : List ℕ) (row : Option ℕ) → end_flaw rows at bytes row ≡ None → Ends rows bytes row
ends rows at bytes row e = by_zero (eqb (number_at 2 0 bytes) 0 && ltb 0 rows) refl
  where
    rest : (if eqb (number_at 2 0 bytes) 0 && ltb 0 rows then (if eqb (length bytes) 2 then None else Some (at + 2)) else row) ≡ None
    rest = (if_none (ltb (length bytes) 2) at (if eqb (number_at 2 0 bytes) 0 && ltb 0 rows then (if eqb (length bytes) 2 then None else Some (at + 2)) else row) e).1

    two : (b : Bool) → (if b then None else Some (at + 2)) ≡ None → b ≡ true
    two true f = refl
    two false f = absurd cc

    by_zero : (b : Bool) → (eqb (number_at 2 0 bytes) 0 && ltb 0 rows) ≡ b → Ends rows bytes row
    by_zero true is =
        let both = and_parts (eqb (number_at 2 0 bytes) 0) (ltb 0 rows) is in
        let whole = two (eqb (length bytes) 2) (sym (ap (λ (c : Bool). if c then (if eqb (length bytes) 2 then None else Some (at + 2)) else row) is) ∙ rest) in
        AtZero (eqb-true _ 0 both.0) (eqb-true (length bytes) 2 whole) (omega (arith, ltb-true 0 rows both.1))
    by_zero false is = AtRow (sym (ap (λ (c : Bool). if c then (if eqb (length bytes) 2 then None else Some (at + 2)) else row) is) ∙ rest)

some_none : (at : ℕ) → Some at ≡ None → ⊥
some_none at e = cc

-- what the bytes are as `more` rows at most, after `rows` others
pub record RowsThere (more rows : ℕ) (bytes : List ℕ) : Type 0 where
  pub are : AreRows (rows + 2) (paths_in more bytes) bytes
  pub few : length (paths_in more bytes) ≤ more
  pub some : 1 ≤ rows + length (paths_in more bytes)

nonzero : (n : ℕ) → 1 ≤ n → eqb n 0 ≡ false
nonzero n le = by_test (eqb n 0) refl
  where
    by_test : (b : Bool) → eqb n 0 ≡ b → b ≡ false
    by_test true e = absurd (omega (arith, le, eqb-true n 0 e))
    by_test false e = refl

-- after the last row no path is read
no_more : (n : ℕ) (bytes : List ℕ) → number_at 2 0 bytes ≡ 0 → paths_in (suc n) bytes ≡ []
no_more n bytes is = ap (λ (k : ℕ). if eqb k 0 then [] else first_path bytes ∷ paths_in n (after_path bytes)) is

pub rows_there : (more rows at : ℕ) (bytes : List ℕ) → rows_flaw more rows at bytes ≡ None → RowsThere more rows bytes
rows_there zero rows at bytes e = by_end (ends rows at bytes (Some at) e)
  where
    by_end : Ends rows bytes (Some at) → RowsThere zero rows bytes
    by_end (AtZero is two one) = record { are = (two, is); few = omega arith; some = omega (arith, one) }
    by_end (AtRow none) = absurd (some_none at none)
rows_there (suc n) rows at bytes e = by_end (λ f. rows_there n (rows + 1) (at + path_start + path_size bytes) (after_path bytes) f) (ends rows at bytes row e)
  where
    made : AreRows (rows + 2) (paths_in (suc n) bytes) bytes × (length (paths_in (suc n) bytes) ≤ suc n) × (1 ≤ rows + length (paths_in (suc n) bytes)) → RowsThere (suc n) rows bytes
    made all = record { are = all.0; few = all.1; some = all.2 }

    row : Option ℕ
    row = if not (eqb (number_at 2 0 bytes) (rows + 2)) then Some at else option_or (row_flaw at bytes) (rows_flaw n (rows + 1) (at + path_start + path_size bytes) (after_path bytes))

    by_end : (rows_flaw n (rows + 1) (at + path_start + path_size bytes) (after_path bytes) ≡ None → RowsThere n (rows + 1) (after_path bytes)) → Ends rows bytes row → RowsThere (suc n) rows bytes
    by_end more (AtZero is two one) = let none = no_more n bytes is in
        made (subst (λ (ps : List (List ℕ)). AreRows (rows + 2) ps bytes × (length ps ≤ suc n) × (1 ≤ rows + length ps)) (sym none) ((two, is), omega arith, omega (arith, one)))
    by_end more (AtRow none) =
        let number = if_none (not (eqb (number_at 2 0 bytes) (rows + 2))) at _ none in
        let is : number_at 2 0 bytes ≡ rows + 2 = eqb-true _ (rows + 2) (not-false _ number.0) in
        let both = none_both (row_flaw at bytes) _ number.1 in
        let here = row_is (rows + 2) at bytes is both.0 in
        let following = more both.1 in
        let next : rows + 1 + 2 ≡ rows + 2 + 1 = omega arith in
        let paths : paths_in (suc n) bytes ≡ first_path bytes ∷ paths_in n (after_path bytes) =
        ap (λ (c : Bool). if c then [] else first_path bytes ∷ paths_in n (after_path bytes)) (nonzero (number_at 2 0 bytes) (omega (arith, is))) in
        made (subst (λ (ps : List (List ℕ)). AreRows (rows + 2) ps bytes × (length ps ≤ suc n) × (1 ≤ rows + length ps)) (sym paths) (
          (
            here.0,
            subst (λ (k : ℕ). AreRows k (paths_in n (after_path bytes)) (drop (11 + length (first_path bytes)) bytes)) next
                (subst (λ (k : ℕ). AreRows (rows + 1 + 2) (paths_in n (after_path bytes)) (drop (11 + k) bytes)) (sym here.1) following.are),
          ),
          omega (arith, following.few),
          omega (arith, following.some),
        ))

whole : (more : ℕ) (bytes : List ℕ) → RowsThere more 0 bytes → AreRows 2 (paths_in more bytes) bytes × (1 ≤ length (paths_in more bytes)) × (length (paths_in more bytes) ≤ more)
whole more bytes there = (there.are, omega (arith, there.some), there.few)

are_paths : (more : ℕ) (paths : List (List ℕ)) (bytes : List ℕ) → more ≡ most_paths → AreRows 2 paths bytes × (1 ≤ length paths) × (length paths ≤ more) → ArePaths paths bytes
are_paths more paths bytes is all = record { rows = all.0; some = all.1; few = omega (arith, all.2, is) }

-- the rows of a pathname segment
pub paths_there : (more : ℕ) (bytes : List ℕ) → more ≡ most_paths → rows_flaw more 0 0 bytes ≡ None → ArePaths (paths_in more bytes) bytes
paths_there more bytes is e = are_paths more (paths_in more bytes) bytes is (whole more bytes (rows_there more 0 0 bytes e))
