-- Equates are in the order of their members and displacements, so no two numbers are one equate's.
use Rattle.std.proofs.Common.{◌≡◌, ◌⊎◌, inl, inr, ℕ, zero, suc, ◌+◌, ◌<◌, ◌≤◌, Bool, true, false, List, [], ◌∷◌, ◌++◌, map, Some, refl, sym, ap, subst, ◌∙◌, append_assoc, arith}
use Rattle.std.specs.Prelude.{slice_get}
use Rattle.std.specs.List.{flat_map}
use Rattle.std.proofs.lemmas.List.{map-append}
use Rattle.std.proofs.lemmas.List.Concat.{flat_map-cons}
use Rattle.omf_format.specs.Record.{Record, End, Const, LongConst, Align, Org, Space, Reloc, InterSeg, ShortReloc, ShortInterSeg, Super, Using, Strong, Label, Equate, Formula, Entry}
use Rattle.link_meaning.specs.First.{IsIn}
use Rattle.object_meaning.specs.Sizes.{Located, size_at, located_from, records_with_offsets}
use Rattle.link_meaning.specs.Member.{Member}
use Rattle.object_meaning.specs.Defines.{Definition, title_of, defined_by, defined_in}
use Rattle.link_meaning.specs.Search.{FoundDefinition, entries_from, entries}
use Rattle.link_meaning.specs.Cycles.{is_equate}
use Rattle.link_meaning.specs.laws.Steps.{has_expr}
use Rattle.link_meaning.specs.laws.ReadMembers.{members_read}
use Rattle.link_meaning.specs.laws.PlaceFits.{of_located}
use Rattle.link_meaning.specs.laws.EquatePlaces.{Rising, read_rising, title_none}
use Rattle.link_meaning.specs.EquateValues.{OneNumber}

-- ---- order

-- an equate is at or after a member's place and a displacement there
abbrev After : ℕ → ℕ → FoundDefinition → Type 0
After place at e = (place < e.place) ⊎ ((place ≡ e.place) × (at ≤ e.definition.at))

abbrev Ordered : ℕ → ℕ → List FoundDefinition → Type 0
Ordered place at [] = Unit {0}
Ordered place at (e ∷ es) = (is_equate e ≡ true → After place at e × Ordered e.place (e.definition.at + 1) es) × (is_equate e ≡ false → Ordered place at es)

after_more : (place at : ℕ) (e f : FoundDefinition) → After place at e → After e.place (e.definition.at + 1) f → After place at f
after_more place at e f (inl p) (inl q) = inl (omega (arith, p, q))
after_more place at e f (inl p) (inr q) = inl (omega (arith, p, q.0))
after_more place at e f (inr p) (inl q) = inl (omega (arith, p.0, q))
after_more place at e f (inr p) (inr q) = inr (p.0 ∙ q.0, omega (arith, p.1, q.1))

some_same : (x y : FoundDefinition) → Some x ≡ Some y → x ≡ y
some_same x y e = cc

all_following : (place at : ℕ) (es : List FoundDefinition) (j : ℕ) (f : FoundDefinition) → Ordered place at es → slice_get es j ≡ Some f → is_equate f ≡ true → After place at f
all_following place at [] j f ordered there equate = absurd cc
all_following place at (e ∷ es) zero f ordered there equate =
    let same : e ≡ f = some_same e f there in
    subst (After place at) same (ordered.0 (ap is_equate same ∙ equate)).0
all_following place at (e ∷ es) (suc j) f ordered there equate =
    by_test (is_equate e) refl (λ o. all_following e.place (e.definition.at + 1) es j f o there equate) (λ o. all_following place at es j f o there equate)
  where
    by_test : (b : Bool) → is_equate e ≡ b → (Ordered e.place (e.definition.at + 1) es → After e.place (e.definition.at + 1) f) → (Ordered place at es → After place at f) → After place at f
    by_test true is go pass = let own = ordered.0 is in after_more place at e f own.0 (go own.1)
    by_test false is go pass = pass (ordered.1 is)

not_itself : (e f : FoundDefinition) → After e.place (e.definition.at + 1) f → e.place ≡ f.place → e.definition.at ≡ f.definition.at → ⊥
not_itself e f (inl p) place at = omega (arith, p, place)
not_itself e f (inr p) place at = omega (arith, p.1, at)

one_from : (place at : ℕ) (es : List FoundDefinition) (i j : ℕ) (e f : FoundDefinition) → Ordered place at es → slice_get es i ≡ Some e → slice_get es j ≡ Some f → is_equate e ≡ true → is_equate f ≡ true
    → e.place ≡ f.place → e.definition.at ≡ f.definition.at → i ≡ j
one_from place at [] i j e f ordered here there p q same key = absurd cc
one_from place at (x ∷ es) zero zero e f ordered here there p q same key = refl
one_from place at (x ∷ es) zero (suc j) e f ordered here there p q same key =
    let is : x ≡ e = some_same x e here in
    let own = ordered.0 (ap is_equate is ∙ p) in
    absurd (not_itself e f (subst (λ (y : FoundDefinition). After y.place (y.definition.at + 1) f) is (all_following x.place (x.definition.at + 1) es j f own.1 there q)) same key)
one_from place at (x ∷ es) (suc i) zero e f ordered here there p q same key =
    let is : x ≡ f = some_same x f there in
    let own = ordered.0 (ap is_equate is ∙ q) in
    absurd (not_itself f e (subst (λ (y : FoundDefinition). After y.place (y.definition.at + 1) e) is (all_following x.place (x.definition.at + 1) es i e own.1 here p)) (sym same) (sym key))
one_from place at (x ∷ es) (suc i) (suc j) e f ordered here there p q same key =
    by_test (is_equate x) refl (λ o. one_from x.place (x.definition.at + 1) es i j e f o here there p q same key) (λ o. one_from place at es i j e f o here there p q same key)
  where
    by_test : (b : Bool) → is_equate x ≡ b → (Ordered x.place (x.definition.at + 1) es → i ≡ j) → (Ordered place at es → i ≡ j) → suc i ≡ suc j
    by_test true is go pass = ap suc (go (ordered.0 is).1)
    by_test false is go pass = ap suc (pass (ordered.1 is))

-- ---- a member's definitions

-- a record defines nothing, or one thing at its displacement
abbrev OneOrNone : ℕ → List Definition → Type 0
OneOrNone at ds = (ds ≡ []) ⊎ ((d : Definition) × (ds ≡ d ∷ []) × (d.at ≡ at))

one_or_none : (at place : ℕ) (r : Record) → OneOrNone at (defined_by at place r)
one_or_none at place End = inl refl
one_or_none at place (Const bytes) = inl refl
one_or_none at place (LongConst bytes) = inl refl
one_or_none at place (Align n) = inl refl
one_or_none at place (Org n) = inl refl
one_or_none at place (Space n) = inl refl
one_or_none at place (Reloc count shift location offset) = inl refl
one_or_none at place (InterSeg count shift location file segment offset) = inl refl
one_or_none at place (ShortReloc count shift location offset) = inl refl
one_or_none at place (ShortInterSeg count shift location segment offset) = inl refl
one_or_none at place (Super form bytes) = inl refl
one_or_none at place (Using name) = inl refl
one_or_none at place (Strong name) = inl refl
one_or_none at place (Label global name size form private) = inr (_, refl, refl)
one_or_none at place (Equate global name size form private expr) = inr (_, refl, refl)
one_or_none at place (Formula code count n expr) = inl refl
one_or_none at place (Entry segment offset name) = inl refl

abbrev founds : ℕ → Member → List Definition → List FoundDefinition
founds place m ds = map (λ (d : Definition). record { place = place; member = m; definition = d }) ds

-- what follows the member's equates is in order after any of its places
abbrev IsRest : ℕ → List FoundDefinition → Type 0
IsRest place rest = (p a : ℕ) → p ≤ place → Ordered p a rest

-- the place and displacement are before those of the member from there on
abbrev Before : ℕ → ℕ → ℕ → ℕ → Type 0
Before p a place low = (p < place) ⊎ ((p ≡ place) × (a ≤ low))

before_le : (p a place low : ℕ) → Before p a place low → p ≤ place
before_le p a place low (inl lt) = omega (arith, lt)
before_le p a place low (inr same) = omega (arith, same.0)

later : (p a place low at : ℕ) → low ≤ at → Before p a place low → Before p a place at
later p a place low at le (inl lt) = inl lt
later p a place low at le (inr same) = inr (same.0, omega (arith, same.1, le))

after_of : (p a place at : ℕ) (m : Member) (d : Definition) → d.at ≡ at → Before p a place at → After p a (record { place = place; member = m; definition = d })
after_of p a place at m d is (inl lt) = inl lt
after_of p a place at m d is (inr same) = inr (same.0, omega (arith, same.1, is))

-- what one record defines, and what follows it
ordered_own : (place : ℕ) (m : Member) (at p a : ℕ) (ds : List Definition) (tail : List FoundDefinition) → OneOrNone at ds → Before p a place at → ((q b : ℕ) → Before q b place (at + 1) → Ordered q b tail)
    → Ordered p a (founds place m ds ++ tail)
ordered_own place m at p a ds tail (inl none) before go =
    subst (λ (l : List Definition). Ordered p a (founds place m l ++ tail)) (sym none) (go p a (later p a place at (at + 1) (omega arith) before))
ordered_own place m at p a ds tail (inr own) before go =
    subst (λ (l : List Definition). Ordered p a (founds place m l ++ tail)) (sym own.1)
    ((λ equate. (after_of p a place at m own.0 own.2 before, go place (own.0.at + 1) (inr (refl, omega (arith, own.2))))), (λ other. go p a (later p a place at (at + 1) (omega arith) before)))

records_ordered : (place : ℕ) (m : Member) (rest : List FoundDefinition) → IsRest place rest → (loc low : ℕ) (rs : List (ℕ × Record)) → Rising low rs → (p a : ℕ) → Before p a place low
    → Ordered p a (founds place m (flat_map of_located (located_from loc rs)) ++ rest)
records_ordered place m rest is loc low [] rising p a before = is p a (before_le p a place low before)
records_ordered place m rest is loc low (found ∷ rs) rising p a before =
    let r : Located = record { at = found.0; location = loc; content = found.1 } in
    let more = flat_map of_located (located_from (loc + size_at loc found.1) rs) in
    let whole : founds place m (flat_map of_located (located_from loc (found ∷ rs))) ≡ founds place m (of_located r) ++ founds place m more =
    ap (founds place m) (flat_map-cons of_located r (located_from (loc + size_at loc found.1) rs)) ∙ map-append (λ (d : Definition). record { place = place; member = m; definition = d }) (of_located r) more in
    subst (λ (l : List FoundDefinition). Ordered p a (l ++ rest)) (sym whole) (subst (Ordered p a) (sym (append_assoc (founds place m (of_located r)) (founds place m more) rest))
    (ordered_own place m found.0 p a (of_located r) (founds place m more ++ rest) (one_or_none found.0 loc found.1) (later p a place low found.0 rising.0 before)
    (λ q b next. records_ordered place m rest is (loc + size_at loc found.1) (found.0 + 1) rs rising.1 q b next)))

true_false : true ≡ false → ⊥
true_false e = cc

-- what isn't an equate is passed over
pass_over : (place : ℕ) (m : Member) (p a : ℕ) (ds : List Definition) (tail : List FoundDefinition) → ((d : Definition) → IsIn ds d → has_expr d.expr ≡ false) → Ordered p a tail → Ordered p a (founds place m ds ++ tail)
pass_over place m p a [] tail none ordered = ordered
pass_over place m p a (d ∷ ds) tail none ordered =
    let more = pass_over place m p a ds tail (λ e is. none e (inr is)) ordered in
    ((λ equate. absurd (true_false (sym equate ∙ none d (inl refl)))), (λ other. more))

member_ordered : (place : ℕ) (m : Member) (rest : List FoundDefinition) → IsRest place rest → Rising 0 m.segment.records → (p a : ℕ) → p < place → Ordered p a (founds place m (defined_in m.segment) ++ rest)
unfolding defined_in records_with_offsets
member_ordered place m rest is rising p a lt =
    let s = m.segment in
    let own = flat_map of_located (located_from 0 s.records) in
    let whole : founds place m (title_of s ++ own) ≡ founds place m (title_of s) ++ founds place m own = map-append (λ (d : Definition). record { place = place; member = m; definition = d }) (title_of s) own in
    subst (λ (l : List FoundDefinition). Ordered p a (l ++ rest)) (sym whole) (subst (Ordered p a) (sym (append_assoc (founds place m (title_of s)) (founds place m own) rest))
    (pass_over place m p a (title_of s) (founds place m own ++ rest) (λ d there. title_none s d there) (records_ordered place m rest is 0 0 s.records rising p a (inl lt))))

-- ---- all definitions

members_ordered : (place : ℕ) (ms : List Member) → ((m : Member) → IsIn ms m → Rising 0 m.segment.records) → (p a : ℕ) → p < place → Ordered p a (entries_from defined_in place ms)
members_ordered place [] each p a lt = tt
members_ordered place (m ∷ ms) each p a lt =
    member_ordered place m (entries_from defined_in (place + 1) ms) (λ q b le. members_ordered (place + 1) ms (λ o is. each o (inr is)) q b (omega (arith, le))) (each m (inl refl)) p a lt

-- Two numbers of equates of one member and one displacement are one.
pub one_number : OneNumber
unfolding entries
one_number files list i j e f bytes resolved here there p q place at =
    one_from 0 0 (entries_from defined_in 1 list) i j e f
    (members_ordered 1 list (λ m is. read_rising m.segment (members_read files list m bytes resolved.program is)) 0 0 (omega arith)) here there p q place at
