-- Steps of a search, one by one.
use Rattle.std.proofs.Common.{◌≡◌, ℕ, ◌+◌, ◌<◌, length, drop, get_or, Bool, true, false, List, [], ◌∷◌, ◌++◌, map, Some, refl, sym, ap, subst, ◌∙◌}
use Rattle.std.specs.Prelude.{filter, ◌&&◌, slice_get, if◌then◌else◌}
use Rattle.std.specs.Str.{bytes_eq}
use Rattle.std.proofs.lemmas.List.{map-append}
use Rattle.std.proofs.lemmas.List.Concat.{flat_map-cons}
use Rattle.link_meaning.specs.declared.search.SearchStep.{SearchStep}
use Rattle.link_meaning.specs.declared.search.SearchStep.TheVariants.{Within, OfUnit, Everyone}
use Rattle.link_meaning.specs.Member.{Member}
use Rattle.std.specs.Borrow.{Bor}
use Rattle.link_meaning.specs.Uses.{usings_of}
use Rattle.link_meaning.specs.Search.{FoundDefinition, or_else, first_step_found, with_this_name, outer_steps, only_place, entries, used_data, finds_data}
use Rattle.link_meaning.specs.laws.Steps.{is_seen_by_step, finds_inside}
use Rattle.link_tables.specs.declared.names.Matches.{Matches}
use Rattle.link_tables.specs.declared.names.Matches.TheVariants.{Nothing, One, Several}
use Rattle.link_tables.specs.declared.names.NameTable.{NameTable}
use Rattle.link_tables.specs.declared.definitions.Origin.{Origin}
use Rattle.link_tables.specs.Names.{Named, Row, Indexes, is_row, seen_of, outcome}
use Rattle.link_tables.specs.Definitions.{Seen, Sees, IsOf, is_found, key_of_found}
use Rattle.link_program.specs.Linked.{place_rows, SeesPlace, names_of, used_places}
use Rattle.link_tables.proofs.Lists.{drop_or}

filter_both : (p q : FoundDefinition → Bool) (xs : List FoundDefinition) → filter p (filter q xs) ≡ filter (λ x. p x && q x) xs
filter_both p q [] = refl
filter_both p q (x ∷ xs) = settle (q x) (p x) (filter_both p q xs)
  where
    settle : (b a : Bool) → filter p (filter q xs) ≡ filter (λ y. p y && q y) xs
        → filter p (if b then x ∷ filter q xs else filter q xs) ≡ (if (p x && b) then x ∷ filter (λ y. p y && q y) xs else filter (λ y. p y && q y) xs)
    settle true a e = by_p (p x)
      where
        by_p : (a : Bool) → (if a then x ∷ filter p (filter q xs) else filter p (filter q xs)) ≡ (if (a && true) then x ∷ filter (λ y. p y && q y) xs else filter (λ y. p y && q y) xs)
        by_p true = ap (λ (l : List FoundDefinition). x ∷ l) e
        by_p false = e
    settle false a e = by_p (p x)
      where
        by_p : (a : Bool) → filter p (filter q xs) ≡ (if (a && false) then x ∷ filter (λ y. p y && q y) xs else filter (λ y. p y && q y) xs)
        by_p true = e
        by_p false = e

abbrev key : SearchStep → List ℕ → Named
key s name = record { step = s; name = name }

-- what a step sees under a name is what its key finds
pub found_named : (s : SearchStep) (name : List ℕ) (fs : List FoundDefinition) → filter (is_seen_by_step s) (with_this_name name fs) ≡ filter (is_found (record { step = s; name = name })) fs
unfolding with_this_name
found_named s name fs = filter_both (is_seen_by_step s) (λ f. bytes_eq name f.definition.name) fs

pub seen_named : (T : FoundDefinition → ℕ → Type 0) (s : SearchStep) (name : List ℕ) (fs : List FoundDefinition) (o : Matches) → Seen T (filter (is_found (record { step = s; name = name })) fs) o → Seen T (filter (is_seen_by_step s) (with_this_name name fs)) o
seen_named T s name fs o seen = subst (λ (l : List FoundDefinition). Seen T l o) (sym (found_named s name fs)) seen

-- what a look-up of definitions answered
pub seen_definitions : (fs : List FoundDefinition) (s : SearchStep) (name : List ℕ) (answer o : Matches) → Sees fs (filter (is_found (record { step = s; name = name })) fs) answer → answer ≡ o → Sees fs (filter (is_seen_by_step s) (with_this_name name fs)) o
seen_definitions fs s name answer o seen is = seen_named (λ f number. slice_get fs number ≡ Some f) s name fs o (subst (λ (a : Matches). Sees fs (filter (is_found (key s name)) fs) a) is seen)

-- a step that finds nothing leaves the decision to those after it
pub step_none : (T : FoundDefinition → ℕ → Type 0) (s : SearchStep) (steps : List SearchStep) (xs : List FoundDefinition) → Seen T (filter (is_seen_by_step s) xs) Nothing → first_step_found (s ∷ steps) xs ≡ first_step_found steps xs
step_none T s steps xs seen = settle (filter (is_seen_by_step s) xs) seen
  where
    settle : (found : List FoundDefinition) → Seen T found Nothing → or_else found (first_step_found steps xs) ≡ first_step_found steps xs
    settle [] e = refl
    settle (f ∷ []) e = let clash = e.1 in absurd cc
    settle (f ∷ g ∷ more) e = let clash = e.1 in absurd cc

-- every other one decides
pub step_some : (T : FoundDefinition → ℕ → Type 0) (s : SearchStep) (steps : List SearchStep) (xs : List FoundDefinition) (o : Matches) → Seen T (filter (is_seen_by_step s) xs) o → (o ≡ Nothing → ⊥) → Seen T (first_step_found (s ∷ steps) xs) o
step_some T s steps xs o seen some = settle (filter (is_seen_by_step s) xs) seen
  where
    settle : (found : List FoundDefinition) → Seen T found o → Seen T (or_else found (first_step_found steps xs)) o
    settle [] e = absurd (some e)
    settle (f ∷ []) e = e
    settle (f ∷ g ∷ more) e = e

pub or_else-nil : (xs : List FoundDefinition) → or_else xs [] ≡ xs
or_else-nil [] = refl
or_else-nil (f ∷ xs) = refl

pub one_some : (n : ℕ) → One n ≡ Nothing → ⊥
one_some n e = cc

pub several_some : (n : ℕ) → Several n ≡ Nothing → ⊥
several_some n e = cc

or_else-assoc : (xs ys zs : List FoundDefinition) → or_else (or_else xs ys) zs ≡ or_else xs (or_else ys zs)
or_else-assoc [] ys zs = refl
or_else-assoc (x ∷ xs) ys zs = refl

pub decided-append : (steps more : List SearchStep) (xs : List FoundDefinition) → first_step_found (steps ++ more) xs ≡ or_else (first_step_found steps xs) (first_step_found more xs)
decided-append [] more xs = refl
decided-append (s ∷ steps) more xs = ap (or_else (filter (is_seen_by_step s) xs)) (decided-append steps more xs) ∙ sym (or_else-assoc (filter (is_seen_by_step s) xs) (first_step_found steps xs) (first_step_found more xs))

pub first_steps_none : (T : FoundDefinition → ℕ → Type 0) (steps more : List SearchStep) (xs : List FoundDefinition) → Seen T (first_step_found steps xs) Nothing → first_step_found (steps ++ more) xs ≡ first_step_found more xs
first_steps_none T steps more xs seen = decided-append steps more xs ∙ settle (first_step_found steps xs) seen
  where
    settle : (found : List FoundDefinition) → Seen T found Nothing → or_else found (first_step_found more xs) ≡ first_step_found more xs
    settle [] e = refl
    settle (f ∷ []) e = let clash = e.1 in absurd cc
    settle (f ∷ g ∷ rest) e = let clash = e.1 in absurd cc

pub first_steps_some : (T : FoundDefinition → ℕ → Type 0) (steps more : List SearchStep) (xs : List FoundDefinition) (o : Matches) → Seen T (first_step_found steps xs) o → (o ≡ Nothing → ⊥) → Seen T (first_step_found (steps ++ more) xs) o
first_steps_some T steps more xs o seen some = subst (λ (l : List FoundDefinition). Seen T l o) (sym (decided-append steps more xs)) (settle (first_step_found steps xs) seen)
  where
    settle : (found : List FoundDefinition) → Seen T found o → Seen T (or_else found (first_step_found more xs)) o
    settle [] e = absurd (some e)
    settle (f ∷ []) e = e
    settle (f ∷ g ∷ rest) e = e

-- ---- a unit, and then all

abbrev pub outer_of : Origin → List SearchStep
outer_of origin = OfUnit origin.file origin.from ∷ Everyone ∷ []

pub outer_same : (m : Member) (origin : Origin) → IsOf m origin → outer_steps m ≡ outer_of origin
outer_same m origin is =
    ap (λ (n : ℕ). OfUnit n m.from ∷ Everyone ∷ []) is.0 ∙ ap (λ (n : ℕ). OfUnit origin.file n ∷ Everyone ∷ []) is.2

pub outer_first : (T : FoundDefinition → ℕ → Type 0) (m : Member) (origin : Origin) (xs : List FoundDefinition) (o : Matches) → IsOf m origin → Seen T (filter (is_seen_by_step (OfUnit origin.file origin.from)) xs) o → (o ≡ Nothing → ⊥)
    → Seen T (first_step_found (outer_steps m) xs) o
outer_first T m origin xs o is seen some =
    subst (λ (steps : List SearchStep). Seen T (first_step_found steps xs) o) (sym (outer_same m origin is)) (step_some T (OfUnit origin.file origin.from) (Everyone ∷ []) xs o seen some)

pub outer_second : (T : FoundDefinition → ℕ → Type 0) (m : Member) (origin : Origin) (xs : List FoundDefinition) (o : Matches) → IsOf m origin → Seen T (filter (is_seen_by_step (OfUnit origin.file origin.from)) xs) Nothing
    → Seen T (filter (is_seen_by_step Everyone) xs) o → Seen T (first_step_found (outer_steps m) xs) o
outer_second T m origin xs o is none seen =
    let same : filter (is_seen_by_step Everyone) xs ≡ first_step_found (outer_of origin) xs = sym (or_else-nil (filter (is_seen_by_step Everyone) xs)) ∙ sym (step_none T (OfUnit origin.file origin.from) (Everyone ∷ []) xs none) in
    subst (λ (steps : List SearchStep). Seen T (first_step_found steps xs) o) (sym (outer_same m origin is)) (subst (λ (l : List FoundDefinition). Seen T l o) same seen)

-- ---- titles and their places

place_more : (f : FoundDefinition) (row : Row) (ys : List FoundDefinition) (rs : List Row) → row.1 ≡ f.place → SeesPlace ys (seen_of rs) → SeesPlace (f ∷ ys) (seen_of (row ∷ rs))
place_more f row [] [] is s = (row.1, refl, is)
place_more f row [] (r ∷ []) is s = absurd cc
place_more f row [] (r ∷ r' ∷ rs) is s = absurd cc
place_more f row (y ∷ []) [] is s = let clash = s.1 in absurd cc
place_more f row (y ∷ y' ∷ ys) [] is s = let clash = s.1 in absurd cc
place_more f row (y ∷ []) (r ∷ rs) is s = (row.1, refl, is)
place_more f row (y ∷ y' ∷ ys) (r ∷ rs) is s = (row.1, refl, is)

pub seen_places : (fs : List FoundDefinition) (k : Named) → SeesPlace (filter (is_found k) fs) (outcome (place_rows fs) k)
seen_places [] k = refl
seen_places (f ∷ fs) k = settle (is_found k f) (seen_places fs k)
  where
    settle : (b : Bool) → SeesPlace (filter (is_found k) fs) (outcome (place_rows fs) k)
        → SeesPlace (if b then f ∷ filter (is_found k) fs else filter (is_found k) fs) (seen_of (if b then (key_of_found f, f.place) ∷ filter (is_row k) (place_rows fs) else filter (is_row k) (place_rows fs)))
    settle true s = place_more f (key_of_found f, f.place) (filter (is_found k) fs) (filter (is_row k) (place_rows fs)) refl s
    settle false s = s

pub seen_titles : (fs : List FoundDefinition) (titles : NameTable) (s : SearchStep) (name : List ℕ) (o : Matches) → Indexes (place_rows fs) titles → ((rows : List Row) → Indexes rows titles → o ≡ outcome rows (record { step = s; name = name }))
    → SeesPlace (filter (is_seen_by_step s) (with_this_name name fs)) o
seen_titles fs titles s name o ix looks =
    seen_named (λ f number. number ≡ f.place) s name fs o
    (subst (λ (a : Matches). SeesPlace (filter (is_found (key s name)) fs) a) (sym (looks (place_rows fs) ix)) (seen_places fs (key s name)))

-- ---- the data segments that names of USING find

abbrev steps_for : List Member → Member → List (List ℕ) → List SearchStep
steps_for list m names = map Within (used_places list m names)

steps_for-cons : (list : List Member) (m : Member) (name : List ℕ) (names : List (List ℕ)) → steps_for list m (name ∷ names) ≡ map Within (only_place (finds_data list m name)) ++ steps_for list m names
steps_for-cons list m name names =
    ap (map Within) (flat_map-cons (λ (n : List ℕ). only_place (finds_data list m n)) name names)
    ∙ map-append Within (only_place (finds_data list m name)) (used_places list m names)

-- none, or several, are at no place
pub no_place : (found : List FoundDefinition) (o : Matches) → SeesPlace found o → ((n : ℕ) → o ≡ One n → ⊥) → only_place found ≡ []
no_place [] o e none = refl
no_place (f ∷ []) o e none = absurd (none e.0 e.1)
no_place (f ∷ g ∷ more) o e none = refl

-- a name that finds none, or several, gives no step
pub no_step : (list : List Member) (m : Member) (name : List ℕ) (names : List (List ℕ)) (o : Matches) → SeesPlace (finds_data list m name) o → ((n : ℕ) → o ≡ One n → ⊥) → steps_for list m (name ∷ names) ≡ steps_for list m names
no_step list m name names o seen none = steps_for-cons list m name names ∙ ap (λ (ps : List ℕ). map Within ps ++ steps_for list m names) (no_place (finds_data list m name) o seen none)

-- one thing that was found is at its place
pub one_place : (found : List FoundDefinition) (n : ℕ) → SeesPlace found (One n) → only_place found ≡ n ∷ []
one_place [] n e = absurd cc
one_place (f ∷ []) n e = ap (λ (k : ℕ). k ∷ []) (sym (same_number n e.0 e.1 ∙ e.2))
  where
    same_number : (a b : ℕ) → One a ≡ One b → a ≡ b
    same_number a b e = cc
one_place (f ∷ g ∷ more) n e = let clash = e.1 in absurd cc

-- one that finds one gives that one's
pub one_step : (list : List Member) (m : Member) (name : List ℕ) (names : List (List ℕ)) (n : ℕ) → SeesPlace (finds_data list m name) (One n) → steps_for list m (name ∷ names) ≡ Within n ∷ steps_for list m names
one_step list m name names n seen = steps_for-cons list m name names ∙ ap (λ (ps : List ℕ). map Within ps ++ steps_for list m names) (one_place (finds_data list m name) n seen)

-- what a search for a USING name answered
pub reported_titles : (list : List Member) (m : Member) (name : List ℕ) (answer o : Matches) → answer ≡ o → SeesPlace (finds_data list m name) answer → SeesPlace (finds_data list m name) o
reported_titles list m name answer o is seen = subst (λ (a : Matches). SeesPlace (finds_data list m name) a) is seen

-- ---- the names of USING one by one

abbrev Text : Type 0
Text = Bor (List ℕ)

-- no step of those so far found anything
abbrev pub SoFar : List Member → Member → List Text → ℕ → List FoundDefinition → Type 0
SoFar list m usings k xs = first_step_found (map Within (used_places list m (names_of usings))) xs ≡ first_step_found (map Within (used_places list m (names_of (drop k usings)))) xs

next_names : (usings : List Text) (k : ℕ) (d : Text) → k < length usings → names_of (drop k usings) ≡ (get_or usings k d).now ∷ names_of (drop (k + 1) usings)
next_names usings k d less = ap names_of (drop_or usings k d less)

abbrev by_names : List Member → Member → List FoundDefinition → List (List ℕ) → List FoundDefinition
by_names list m xs names = first_step_found (map Within (used_places list m names)) xs

pub used_found : (T : FoundDefinition → ℕ → Type 0) (list : List Member) (m : Member) (usings : List Text) (k : ℕ) (d : Text) (xs : List FoundDefinition) (n : ℕ) (o : Matches) → k < length usings → SeesPlace (finds_data list m (get_or usings k d).now) (One n)
    → SoFar list m usings k xs → Seen T (filter (is_seen_by_step (Within n)) xs) o → (o ≡ Nothing → ⊥) → Seen T (first_step_found (map Within (used_places list m (names_of usings))) xs) o
used_found T list m usings k d xs n o less data' so_far seen some =
    let rest = names_of (drop (k + 1) usings) in
    let whole : by_names list m xs (names_of usings) ≡ first_step_found (Within n ∷ map Within (used_places list m rest)) xs =
    so_far ∙ ap (by_names list m xs) (next_names usings k d less) ∙ ap (λ (steps : List SearchStep). first_step_found steps xs) (one_step list m (get_or usings k d).now rest n data') in
    subst (λ (l : List FoundDefinition). Seen T l o) (sym whole) (step_some T (Within n) (map Within (used_places list m rest)) xs o seen some)

pub used_empty : (T : FoundDefinition → ℕ → Type 0) (list : List Member) (m : Member) (usings : List Text) (k : ℕ) (d : Text) (xs : List FoundDefinition) (n : ℕ) → k < length usings → SeesPlace (finds_data list m (get_or usings k d).now) (One n)
    → SoFar list m usings k xs → Seen T (filter (is_seen_by_step (Within n)) xs) Nothing → SoFar list m usings (k + 1) xs
used_empty T list m usings k d xs n less data' so_far seen =
    let rest = names_of (drop (k + 1) usings) in
    so_far ∙ ap (by_names list m xs) (next_names usings k d less) ∙ ap (λ (steps : List SearchStep). first_step_found steps xs) (one_step list m (get_or usings k d).now rest n data')
    ∙ step_none T (Within n) (map Within (used_places list m rest)) xs seen

pub used_other : (list : List Member) (m : Member) (usings : List Text) (k : ℕ) (d : Text) (xs : List FoundDefinition) (o : Matches) → k < length usings → SeesPlace (finds_data list m (get_or usings k d).now) o
    → ((n : ℕ) → o ≡ One n → ⊥) → SoFar list m usings k xs → SoFar list m usings (k + 1) xs
used_other list m usings k d xs o less data' none so_far =
    let rest = names_of (drop (k + 1) usings) in
    so_far ∙ ap (by_names list m xs) (next_names usings k d less) ∙ ap (λ (steps : List SearchStep). first_step_found steps xs) (no_step list m (get_or usings k d).now rest o data' none)

pub nothing_one : (n : ℕ) → Nothing ≡ One n → ⊥
nothing_one n e = cc

pub several_one : (k n : ℕ) → Several k ≡ One n → ⊥
several_one k n e = cc

-- ---- all steps of a name

pub finds_own : (T : FoundDefinition → ℕ → Type 0) (list : List Member) (place : ℕ) (m : Member) (name : List ℕ) (o : Matches) → Seen T (filter (is_seen_by_step (Within place)) (with_this_name name (entries list))) o → (o ≡ Nothing → ⊥) → Seen T (finds_inside list place m name) o
finds_own T list place m name o seen some = step_some T (Within place) (map Within (used_data list m) ++ outer_steps m) (with_this_name name (entries list)) o seen some

pub finds_used : (T : FoundDefinition → ℕ → Type 0) (list : List Member) (place : ℕ) (m : Member) (name : List ℕ) (names : List (List ℕ)) (o : Matches) → names ≡ usings_of m.segment → Seen T (filter (is_seen_by_step (Within place)) (with_this_name name (entries list))) Nothing
    → Seen T (first_step_found (map Within (used_places list m names)) (with_this_name name (entries list))) o → (o ≡ Nothing → ⊥) → Seen T (finds_inside list place m name) o
unfolding used_data
finds_used T list place m name names o are none seen some =
    let xs = with_this_name name (entries list) in
    let own = step_none T (Within place) (map Within (used_data list m) ++ outer_steps m) xs none in
    let here : Seen T (first_step_found (map Within (used_data list m)) xs) o = subst (λ (l : List (List ℕ)). Seen T (first_step_found (map Within (used_places list m l)) xs) o) are seen in
    subst (λ (l : List FoundDefinition). Seen T l o) (sym own) (first_steps_some T (map Within (used_data list m)) (outer_steps m) xs o here some)

pub finds_outer : (T : FoundDefinition → ℕ → Type 0) (list : List Member) (place : ℕ) (m : Member) (name : List ℕ) (names : List (List ℕ)) (o : Matches) → names ≡ usings_of m.segment → Seen T (filter (is_seen_by_step (Within place)) (with_this_name name (entries list))) Nothing
    → Seen T (first_step_found (map Within (used_places list m names)) (with_this_name name (entries list))) Nothing → Seen T (first_step_found (outer_steps m) (with_this_name name (entries list))) o → Seen T (finds_inside list place m name) o
unfolding used_data
finds_outer T list place m name names o are none used seen =
    let xs = with_this_name name (entries list) in
    let own = step_none T (Within place) (map Within (used_data list m) ++ outer_steps m) xs none in
    let here : Seen T (first_step_found (map Within (used_data list m)) xs) Nothing = subst (λ (l : List (List ℕ)). Seen T (first_step_found (map Within (used_places list m l)) xs) Nothing) are used in
    subst (λ (l : List FoundDefinition). Seen T l o) (sym (own ∙ first_steps_none T (map Within (used_data list m)) (outer_steps m) xs here)) seen

-- nothing is found where no place has the name
pub none_decided : (xs : List FoundDefinition) (places : List ℕ) → ((place : ℕ) → filter (is_seen_by_step (Within place)) xs ≡ []) → first_step_found (map Within places) xs ≡ []
none_decided xs [] none = refl
none_decided xs (p ∷ places) none = ap (λ (l : List FoundDefinition). or_else l (first_step_found (map Within places) xs)) (none p) ∙ none_decided xs places none
