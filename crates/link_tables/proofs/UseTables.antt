-- Uses whose wants are kept apart, and the names of USING among uses.
use Rattle.std.proofs.Common.{◌≡◌, ℕ, zero, suc, ◌+◌, ◌≤◌, List, [], ◌∷◌, ◌++◌, length, map, drop, Some, refl, sym, ap, ◌∙◌, arith, add-one, append_assoc, append-nil}
use Rattle.std.specs.Prelude.{slice_get}
use Rattle.std.specs.Option.{option_map}
use Rattle.std.specs.List.{zip, flat_map}
use Rattle.std.proofs.lemmas.List.{map-append, length-map}
use Rattle.std.proofs.lemmas.List.Concat.{flat_map-cons}
use Rattle.std.proofs.lemmas.Option.{slice_get-map}
use Rattle.std.proofs.lemmas.Slice.Zip.{length-zip}
use Rattle.indexmap.proofs.ReorderLemmas.{slice_get-zip_some}
use Rattle.link_meaning.specs.declared.search.SearchKind.{SearchKind}
use Rattle.link_meaning.specs.Uses.{Use}
use Rattle.link_meaning.specs.laws.Steps.{data_name}
use Rattle.link_tables.specs.declared.uses.UseSite.{UseSite}
use Rattle.link_tables.specs.Uses.{use_of_site, uses_of_sites}
use Rattle.link_tables.specs.Usings.{usings_from}

pub sites_count : (wants : List SearchKind) (sites : List UseSite) → length wants ≡ length sites → length (uses_of_sites wants sites) ≡ length sites
sites_count wants sites same = omega (arith, same, length-map (zip wants sites) use_of_site, length-zip wants sites)

pub site_at : (wants : List SearchKind) (sites : List UseSite) (k : ℕ) (want : SearchKind) (site : UseSite) → slice_get wants k ≡ Some want → slice_get sites k ≡ Some site → slice_get (uses_of_sites wants sites) k ≡ Some (use_of_site (want, site))
site_at wants sites k want site a b = slice_get-map use_of_site (zip wants sites) k ∙ ap (option_map use_of_site) (slice_get-zip_some wants sites k want site a b)

zip-snoc : (wants : List SearchKind) (sites : List UseSite) (want : SearchKind) (site : UseSite) → length wants ≡ length sites → zip (wants ++ want ∷ []) (sites ++ site ∷ []) ≡ zip wants sites ++ (want, site) ∷ []
zip-snoc [] [] want site same = refl
zip-snoc [] (s ∷ sites) want site same = absurd (omega (arith, same))
zip-snoc (w ∷ wants) [] want site same = absurd (omega (arith, same))
zip-snoc (w ∷ wants) (s ∷ sites) want site same = ap (λ (l : List (SearchKind × UseSite)). (w, s) ∷ l) (zip-snoc wants sites want site (omega (arith, same)))

pub sites_more : (wants : List SearchKind) (sites : List UseSite) (want : SearchKind) (site : UseSite) → length wants ≡ length sites → uses_of_sites (wants ++ want ∷ []) (sites ++ site ∷ []) ≡ uses_of_sites wants sites ++ use_of_site (want, site) ∷ []
sites_more wants sites want site same = ap (map use_of_site) (zip-snoc wants sites want site same) ∙ map-append use_of_site (zip wants sites) ((want, site) ∷ [])

-- ---- names of USING

drop_from : {A : Type 0} → (xs : List A) (k : ℕ) (x : A) → slice_get xs k ≡ Some x → drop k xs ≡ x ∷ drop (suc k) xs
drop_from [] k x e = absurd cc
drop_from {A} (y ∷ xs) zero x e = let same : y ≡ x = cc in ap (λ (z : A). z ∷ xs) same
drop_from (y ∷ xs) (suc k) x e = drop_from xs k x e

drop_there : {A : Type 0} → (xs : List A) (k : ℕ) (x : A) → slice_get xs k ≡ Some x → drop k xs ≡ x ∷ drop (k + 1) xs
drop_there xs k x e = drop_from xs k x e ∙ ap (λ (n : ℕ). x ∷ drop n xs) (sym (add-one k))

drop_past : {A : Type 0} → (xs : List A) (k : ℕ) → length xs ≤ k → drop k xs ≡ []
drop_past [] zero past = refl
drop_past [] (suc k) past = refl
drop_past (x ∷ xs) zero past = absurd (omega (arith, past))
drop_past (x ∷ xs) (suc k) past = drop_past xs k (omega (arith, past))

abbrev given : List (ℕ × Use) → List (List ℕ)
given uses = flat_map (λ u. data_name u.1) uses

pub usings_next : (uses : List (ℕ × Use)) (k : ℕ) (u : ℕ × Use) (names more whole : List (List ℕ)) → slice_get uses k ≡ Some u → more ≡ names ++ data_name u.1 → names ++ usings_from uses k ≡ whole → more ++ usings_from uses (k + 1) ≡ whole
usings_next uses k u names more whole there is so_far =
    ap (λ (l : List (List ℕ)). l ++ usings_from uses (k + 1)) is
    ∙ append_assoc names (data_name u.1) (usings_from uses (k + 1))
    ∙ ap (λ (l : List (List ℕ)). names ++ l) (sym (flat_map-cons (λ (v : ℕ × Use). data_name v.1) u (drop (k + 1) uses)))
    ∙ ap (λ (l : List (ℕ × Use)). names ++ given l) (sym (drop_there uses k u there))
    ∙ so_far

pub usings_all : (uses : List (ℕ × Use)) (k : ℕ) (names whole : List (List ℕ)) → length uses ≤ k → names ++ usings_from uses k ≡ whole → names ≡ whole
usings_all uses k names whole past so_far = sym (append-nil names) ∙ sym (ap (λ (l : List (ℕ × Use)). names ++ given l) (drop_past uses k past)) ∙ so_far
