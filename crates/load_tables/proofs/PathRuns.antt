-- Going over the rows of a pathname segment.
use Rattle.std.proofs.Common.{◌≡◌, ℕ, zero, suc, ◌+◌, ◌-◌, ◌≤◌, Bool, true, false, eqb, ltb, List, [], ◌∷◌, ◌++◌, length, Option, Some, None, refl, sym, ap, subst, ◌∙◌, append_assoc, arith}
use Rattle.std.specs.Prelude.{◌&&◌, not, if◌then◌else◌}
use Rattle.std.specs.Option.{option_or}
use Rattle.std.proofs.lemmas.Bool.{and_parts, ne_eqb, eqb-true, ltb-true}
use Rattle.std.proofs.lemmas.List.{length-drop}
use Rattle.omf_format.specs.Number.{number_at}
use Rattle.load_meaning.specs.Pathnames.{path_start, path_size, first_path, after_path, paths_in, row_flaw, end_flaw, rows_flaw}
use Rattle.load_tables.specs.Paths.{flaw_in, rows_in}

-- ---- the number at the start of the rest

-- it is 0 after a row
abbrev at_end : ℕ → List ℕ → Bool
at_end rows bytes = eqb (number_at 2 0 bytes) 0 && ltb 0 rows

abbrev then_end : ℕ → List ℕ → Option ℕ
then_end at bytes = if eqb (length bytes) 2 then None else Some (at + 2)

not_less : (a b : ℕ) → b ≤ a → ltb a b ≡ false
not_less a b le = by_test (ltb a b) refl
  where
    by_test : (t : Bool) → ltb a b ≡ t → t ≡ false
    by_test true e = absurd (omega (arith, le, ltb-true a b e))
    by_test false e = refl

end_test : (rows at : ℕ) (bytes : List ℕ) (row : Option ℕ) → 2 ≤ length bytes → end_flaw rows at bytes row ≡ (if at_end rows bytes then then_end at bytes else row)
end_test rows at bytes row long = ap (λ (b : Bool). if b then Some at else (if at_end rows bytes then then_end at bytes else row)) (not_less (length bytes) 2 long)

end_row : (rows at : ℕ) (bytes : List ℕ) (row : Option ℕ) → 2 ≤ length bytes → at_end rows bytes ≡ false → end_flaw rows at bytes row ≡ row
end_row rows at bytes row long is = end_test rows at bytes row long ∙ ap (λ (b : Bool). if b then then_end at bytes else row) is

-- ---- the row at the start of the rest

-- what is reported for it, where at most n more rows may follow
abbrev row_then : ℕ → ℕ → ℕ → List ℕ → Option ℕ
row_then zero rows at bytes = Some at
row_then (suc n) rows at bytes =
    if not (eqb (number_at 2 0 bytes) (rows + 2)) then Some at
    else option_or (row_flaw at bytes) (rows_flaw n (rows + 1) (at + path_start + path_size bytes) (after_path bytes))

opened : (n rows at : ℕ) (bytes : List ℕ) → rows_flaw n rows at bytes ≡ end_flaw rows at bytes (row_then n rows at bytes)
opened zero rows at bytes = refl
opened (suc n) rows at bytes = refl

-- where it has the next number
next_row : (n m rows at : ℕ) (bytes : List ℕ) → n ≡ suc m → eqb (number_at 2 0 bytes) (rows + 2) ≡ true
    → row_then n rows at bytes ≡ option_or (row_flaw at bytes) (rows_flaw m (rows + 1) (at + path_start + path_size bytes) (after_path bytes))
next_row n m rows at bytes left is =
    ap (λ (k : ℕ). row_then k rows at bytes) left
    ∙ ap (λ (b : Bool). if not b then Some at else option_or (row_flaw at bytes) (rows_flaw m (rows + 1) (at + path_start + path_size bytes) (after_path bytes))) is

one_path : (n m : ℕ) (bytes : List ℕ) → n ≡ suc m → eqb (number_at 2 0 bytes) 0 ≡ false → paths_in n bytes ≡ first_path bytes ∷ paths_in m (after_path bytes)
one_path n m bytes left is =
    ap (λ (k : ℕ). paths_in k bytes) left ∙ ap (λ (b : Bool). if b then [] else first_path bytes ∷ paths_in m (after_path bytes)) is

-- ---- the rows so far

-- `rows` rows were passed, and these paths read: what is wrong is what is wrong in the rest
pub record SoFar (most : ℕ) (bytes : List ℕ) (rows at : ℕ) (rest : List ℕ) (paths : List (List ℕ)) : Type 0 where
  pub within : rows ≤ most
  pub place : at + length rest ≡ length bytes
  pub flaw : flaw_in most bytes ≡ rows_flaw (most - rows) rows at rest
  pub paths' : rows_in most bytes ≡ paths ++ paths_in (most - rows) rest

pub so_none : (most : ℕ) (bytes : List ℕ) → SoFar most bytes 0 0 bytes []
unfolding flaw_in rows_in
so_none most bytes =
    let all : most ≡ most - 0 = omega arith in
    record { within = omega arith; place = omega arith; flaw = ap (λ (n : ℕ). rows_flaw n 0 0 bytes) all; paths' = ap (λ (n : ℕ). paths_in n bytes) all }

so_row : (most : ℕ) (bytes : List ℕ) (rows at : ℕ) (rest : List ℕ) (paths : List (List ℕ)) → SoFar most bytes rows at rest paths → 2 ≤ length rest → at_end rows rest ≡ false
    → (ltb rows most && eqb (number_at 2 0 rest) (rows + 2)) ≡ true
    → flaw_in most bytes ≡ option_or (row_flaw at rest) (rows_flaw (most - (rows + 1)) (rows + 1) (at + path_start + path_size rest) (after_path rest))
so_row most bytes rows at rest paths so long open' is =
    let next = and_parts (ltb rows most) (eqb (number_at 2 0 rest) (rows + 2)) is in
    so.flaw ∙ opened (most - rows) rows at rest ∙ end_row rows at rest (row_then (most - rows) rows at rest) long open'
    ∙ next_row (most - rows) (most - (rows + 1)) rows at rest (omega (arith, ltb-true rows most next.0)) next.1

pub so_wrong : (most : ℕ) (bytes : List ℕ) (rows at flaw : ℕ) (rest : List ℕ) (paths : List (List ℕ)) → SoFar most bytes rows at rest paths → 2 ≤ length rest → at_end rows rest ≡ false
    → (ltb rows most && eqb (number_at 2 0 rest) (rows + 2)) ≡ true → row_flaw at rest ≡ Some flaw → flaw_in most bytes ≡ Some flaw
so_wrong most bytes rows at flaw rest paths so long open' is wrong =
    so_row most bytes rows at rest paths so long open' is
    ∙ ap (λ (o : Option ℕ). option_or o (rows_flaw (most - (rows + 1)) (rows + 1) (at + path_start + path_size rest) (after_path rest))) wrong

not_zero : (rows n : ℕ) → eqb n (rows + 2) ≡ true → eqb n 0 ≡ false
not_zero rows n is = ne_eqb n 0 (λ e. omega (arith, e, eqb-true n (rows + 2) is))

pub so_more : (most : ℕ) (bytes : List ℕ) (rows at : ℕ) (rest : List ℕ) (paths : List (List ℕ)) → SoFar most bytes rows at rest paths → 2 ≤ length rest → at_end rows rest ≡ false
    → (ltb rows most && eqb (number_at 2 0 rest) (rows + 2)) ≡ true → row_flaw at rest ≡ None → path_start + path_size rest ≤ length rest
    → SoFar most bytes (rows + 1) (at + (path_start + path_size rest)) (after_path rest) (paths ++ first_path rest ∷ [])
so_more most bytes rows at rest paths so long open' is none inside =
    let next = and_parts (ltb rows most) (eqb (number_at 2 0 rest) (rows + 2)) is in
    let lt = ltb-true rows most next.0 in
    let step : at + path_start + path_size rest ≡ at + (path_start + path_size rest) = omega arith in
    let left : most - rows ≡ suc (most - (rows + 1)) = omega (arith, lt) in
    record {
      within = omega (arith, lt);
      place = omega (arith, so.place, inside, length-drop (path_start + path_size rest) rest);
      flaw =
          so_row most bytes rows at rest paths so long open' is
          ∙ ap (λ (o : Option ℕ). option_or o (rows_flaw (most - (rows + 1)) (rows + 1) (at + path_start + path_size rest) (after_path rest))) none
          ∙ ap (λ (k : ℕ). rows_flaw (most - (rows + 1)) (rows + 1) k (after_path rest)) step;
      paths' =
          so.paths' ∙ ap (λ (l : List (List ℕ)). paths ++ l) (one_path (most - rows) (most - (rows + 1)) rest left (not_zero rows (number_at 2 0 rest) next.1))
          ∙ sym (append_assoc paths (first_path rest ∷ []) (paths_in (most - (rows + 1)) (after_path rest)));
    }

pub so_next : (most : ℕ) (bytes : List ℕ) (rows at : ℕ) (rest : List ℕ) (paths : List (List ℕ)) (next : ℕ) (left path : List ℕ) (more : List (List ℕ)) → SoFar most bytes rows at rest paths → 2 ≤ length rest → at_end rows rest ≡ false
    → (ltb rows most && eqb (number_at 2 0 rest) (rows + 2)) ≡ true → row_flaw at rest ≡ None → path_start + path_size rest ≤ length rest
    → next ≡ at + (path_start + path_size rest) → left ≡ after_path rest → path ≡ first_path rest → more ≡ paths ++ path ∷ [] → SoFar most bytes (rows + 1) next left more
so_next most bytes rows at rest paths next left path more so long open' is none inside next_is left_is path_is more_is =
    let all : more ≡ paths ++ first_path rest ∷ [] = more_is ∙ ap (λ (p : List ℕ). paths ++ p ∷ []) path_is in
    subst (λ (n : ℕ). SoFar most bytes (rows + 1) n left more) (sym next_is)
    (subst (λ (l : List ℕ). SoFar most bytes (rows + 1) (at + (path_start + path_size rest)) l more) (sym left_is)
    (subst (λ (l : List (List ℕ)). SoFar most bytes (rows + 1) (at + (path_start + path_size rest)) (after_path rest) l) (sym all) (so_more most bytes rows at rest paths so long open' is none inside)))
