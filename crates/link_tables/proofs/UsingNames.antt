-- Names of USING one by one.
use Rattle.std.proofs.Common.{◌≡◌, ℕ, ◌+◌, ◌<◌, length, take, get_or, Bool, true, false, List, [], ◌∷◌, refl, sym, ap, ◌∙◌}
use Rattle.std.specs.Prelude.{◌&&◌, ◌||◌, if◌then◌else◌}
use Rattle.std.specs.Str.{bytes_eq}
use Rattle.std.specs.Borrow.{Bor}
use Rattle.std.proofs.lemmas.List.{take_more, map-append}
use Rattle.std.proofs.lemmas.List.Folds.{list_any-append}
use Rattle.link_tables.specs.Usings.{names_of, is_among}

one_more : (p u b h : Bool) → (if (p && b) then true else ((p && u) || h)) ≡ ((p && (u || (b || false))) || h)
one_more true true true h = refl
one_more true true false h = refl
one_more true false true h = refl
one_more true false false h = refl
one_more false u b h = refl

-- one name more among those so far
pub among_more : (p h : Bool) (names : List (Bor (List ℕ))) (k : ℕ) (d : Bor (List ℕ)) (name : List ℕ) → k < length names
    → (if (p && bytes_eq (get_or names k d).now name) then true else ((p && is_among name (names_of (take k names))) || h)) ≡ ((p && is_among name (names_of (take (k + 1) names))) || h)
among_more p h names k d name less =
    one_more p (is_among name (names_of (take k names))) (bytes_eq (get_or names k d).now name) h
    ∙ ap (λ (b : Bool). (p && b) || h) (sym (list_any-append (λ (n : List ℕ). bytes_eq n name) (names_of (take k names)) ((get_or names k d).now ∷ [])))
    ∙ ap (λ (l : List (List ℕ)). (p && is_among name l) || h) (sym (map-append (λ (n : Bor (List ℕ)). n.now) (take k names) (get_or names k d ∷ [])))
    ∙ ap (λ (l : List (Bor (List ℕ))). (p && is_among name (names_of l)) || h) (sym (take_more names k d less))
