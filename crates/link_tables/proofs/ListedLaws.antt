-- Definitions in order, whose expressions are kept apart.
use Rattle.std.proofs.Common.{◌≡◌, ℕ, zero, suc, ◌+◌, ◌<◌, List, [], ◌∷◌, ◌++◌, length, Option, Some, None, refl, sym, ap, ◌∙◌, arith}
use Rattle.std.specs.Prelude.{slice_get, option_map, if◌then◌else◌}
use Rattle.link_tables.specs.declared.listed.DefinitionMark.{DefinitionMark}
use Rattle.link_tables.specs.Listed.{DefinitionRow, row_of, rows_from}

abbrev Exprs : Type 0
Exprs = ℕ → Option (List ℕ)

pub rows_count : (exprs : Exprs) (n : ℕ) (marks : List DefinitionMark) → length (rows_from exprs n marks) ≡ length marks
rows_count exprs n [] = refl
rows_count exprs n (mark ∷ marks) = ap suc (rows_count exprs (n + 1) marks)

pub row_at : (exprs : Exprs) (n : ℕ) (marks : List DefinitionMark) (k : ℕ) → slice_get (rows_from exprs n marks) k ≡ option_map (row_of exprs (n + k)) (slice_get marks k)
row_at exprs n [] k = refl
row_at exprs n (mark ∷ marks) zero = let same : n ≡ n + 0 = omega arith in ap (λ (i : ℕ). Some (row_of exprs i mark)) same
row_at exprs n (mark ∷ marks) (suc k) =
    let same : n + 1 + k ≡ n + suc k = omega arith in
    row_at exprs (n + 1) marks k ∙ ap (λ (i : ℕ). option_map (row_of exprs i) (slice_get marks k)) same

pub rows_more : (old new : Exprs) (n : ℕ) (marks : List DefinitionMark) (mark : DefinitionMark) → ((k : ℕ) → k < n + length marks → new k ≡ old k)
    → rows_from new n (marks ++ mark ∷ []) ≡ rows_from old n marks ++ row_of new (n + length marks) mark ∷ []
rows_more old new n [] mark same = let at : n ≡ n + 0 = omega arith in ap (λ (i : ℕ). row_of new i mark ∷ []) at
rows_more old new n (x ∷ marks) mark same =
    let at : n + 1 + length marks ≡ n + suc (length marks) = omega arith in
    let first : new n ≡ old n = same n (omega arith) in
    ap (λ (e : Option (List ℕ)). (record { member = x.member; at = x.at; expr = if x.is_equate then e else None; length = x.length; form = x.form }) ∷ rows_from new (n + 1) (marks ++ mark ∷ [])) first
    ∙ ap (λ (l : List DefinitionRow). row_of old n x ∷ l) (rows_more old new (n + 1) marks mark (λ k less. same k (omega (arith, less, at))) ∙ ap (λ (i : ℕ). rows_from old (n + 1) marks ++ row_of new i mark ∷ []) at)

abbrev pub as_reported : DefinitionMark → Option (List ℕ) → DefinitionRow
as_reported mark expr = record { member = mark.member; at = mark.at; expr = expr; length = mark.length; form = mark.form }

-- ---- what a look-up and one more definition give

pub got_row : (exprs : Exprs) (marks : List DefinitionMark) (k : ℕ) (mark : DefinitionMark) (expr : Option (List ℕ)) (shown : List DefinitionRow) → slice_get marks k ≡ Some mark → expr ≡ (if mark.is_equate then exprs k else None)
    → rows_from exprs 0 marks ≡ shown → Some (as_reported mark expr) ≡ slice_get shown k
got_row exprs marks k mark expr shown at is same =
    let zero_k : k ≡ 0 + k = omega arith in
    ap (λ (e : Option (List ℕ)). Some (as_reported mark e)) is ∙ sym (ap (option_map (row_of exprs k)) at) ∙ ap (λ (n : ℕ). option_map (row_of exprs n) (slice_get marks k)) zero_k
    ∙ sym (row_at exprs 0 marks k) ∙ ap (λ (l : List DefinitionRow). slice_get l k) same

pub gone_row : (exprs : Exprs) (marks : List DefinitionMark) (k : ℕ) (shown : List DefinitionRow) → slice_get marks k ≡ None → rows_from exprs 0 marks ≡ shown → None ≡ slice_get shown k
gone_row exprs marks k shown gone same = sym (ap (option_map (row_of exprs (0 + k))) gone) ∙ sym (row_at exprs 0 marks k) ∙ ap (λ (l : List DefinitionRow). slice_get l k) same

pub pushed_row : (old new : Exprs) (marks more : List DefinitionMark) (mark : DefinitionMark) (number : ℕ) (expr : Option (List ℕ)) (shown : List DefinitionRow) → more ≡ marks ++ mark ∷ [] → number ≡ length marks
    → ((k : ℕ) → k < number → new k ≡ old k) → (if mark.is_equate then new number else None) ≡ expr → rows_from old 0 marks ≡ shown → rows_from new 0 more ≡ shown ++ as_reported mark expr ∷ []
pushed_row old new marks more mark number expr shown are number_is before is same =
    let end : 0 + length marks ≡ number = omega (arith, number_is) in
    ap (rows_from new 0) are ∙ rows_more old new 0 marks mark (λ k less. before k (omega (arith, less, number_is)))
    ∙ ap (λ (n : ℕ). rows_from old 0 marks ++ row_of new n mark ∷ []) end ∙ ap (λ (e : Option (List ℕ)). rows_from old 0 marks ++ as_reported mark e ∷ []) is
    ∙ ap (λ (l : List DefinitionRow). l ++ as_reported mark expr ∷ []) same
