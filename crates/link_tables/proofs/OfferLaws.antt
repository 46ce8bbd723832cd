-- Rows of libraries, and which of them serves a use.
use Rattle.std.proofs.Common.{◌≡◌, ℕ, suc, ◌+◌, Bool, true, false, List, [], ◌∷◌, ◌++◌, length, map, Option, Some, None, refl, sym, ap, subst, ◌∙◌, arith}
use Rattle.std.specs.Prelude.{filter, slice_get, not, ◌&&◌, ◌==◌, if◌then◌else◌}
use Rattle.std.specs.Option.{option_or}
use Rattle.std.specs.Str.{bytes_eq}
use Rattle.std.proofs.lemmas.List.{map-append, length-map}
use Rattle.link_meaning.specs.declared.search.SearchStep.{SearchStep}
use Rattle.link_meaning.specs.declared.search.SearchStep.TheVariants.{OfUnit, Everyone}
use Rattle.link_meaning.specs.declared.search.SearchKind.TheVariants as wants
use Rattle.link_meaning.specs.Member.{Member, Offer}
use Rattle.link_meaning.specs.Uses.{Use}
use Rattle.object_meaning.specs.Defines.{outer_scope}
use Rattle.link_meaning.specs.Search.{is_step, step_for}
use Rattle.link_meaning.specs.LinkedList.{has_title, counts_for, first_offer, row_for}
use Rattle.link_meaning.specs.laws.Steps.{is_of_member}
use Rattle.link_tables.specs.declared.definitions.Origin.{Origin}
use Rattle.link_tables.specs.declared.offers.Offers.{Offers}
use Rattle.link_tables.specs.Names.{Named, Row, Indexes, is_key, is_row, seen_of, outcome}
use Rattle.link_tables.specs.Definitions.{IsOf}
use Rattle.link_tables.specs.Offers.{step_of_offer, key_of_offer, is_titled, offer_rows, titled_rows, origin_view, AreOffers, IsOfferOf, number_of, first_number, IsRow}
use Rattle.link_tables.proofs.NameTables.{bytes_same}

-- ---- the first row of a key

seen_some : (row : Row) (rs : List Row) → number_of (seen_of (row ∷ rs)) ≡ Some row.1
seen_some row [] = refl
seen_some row (r ∷ rs) = refl

abbrev by_key : Named → Offer → Bool
by_key key o = is_key key (key_of_offer o)

shifted : (all : List Offer) (o : Offer) (os : List Offer) (n : ℕ) → ((k : ℕ) → slice_get all (n + k) ≡ slice_get (o ∷ os) k) → (k : ℕ) → slice_get all (n + 1 + k) ≡ slice_get os k
shifted all o os n at k = let same : n + 1 + k ≡ n + suc k = omega arith in ap (slice_get all) same ∙ at (suc k)

at_first : (all : List Offer) (o : Offer) (os : List Offer) (n : ℕ) → ((k : ℕ) → slice_get all (n + k) ≡ slice_get (o ∷ os) k) → slice_get all n ≡ Some o
at_first all o os n at = let same : n ≡ n + 0 = omega arith in ap (slice_get all) same ∙ at 0

row_some : (all : List Offer) (n : ℕ) (o : Offer) (answer : Option ℕ) → slice_get all n ≡ Some o → answer ≡ Some n → IsRow all (Some o.member) answer
row_some all n o answer at is = subst (IsRow all (Some o.member)) (sym is) (o, at, refl)

first_by_key : (all os : List Offer) (n : ℕ) (key : Named) → ((k : ℕ) → slice_get all (n + k) ≡ slice_get os k) → IsRow all (first_offer (by_key key) os) (number_of (outcome (offer_rows n os) key))
first_by_key all [] n key at = refl
first_by_key all (o ∷ os) n key at = settle (by_key key o) (first_by_key all os (n + 1) key (shifted all o os n at))
  where
    settle : (b : Bool) → IsRow all (first_offer (by_key key) os) (number_of (outcome (offer_rows (n + 1) os) key))
        → IsRow all (if b then Some o.member else first_offer (by_key key) os) (number_of (seen_of (if b then (key_of_offer o, n) ∷ filter (is_row key) (offer_rows (n + 1) os) else filter (is_row key) (offer_rows (n + 1) os))))
    settle true more = row_some all n o _ (at_first all o os n at) (seen_some (key_of_offer o, n) (filter (is_row key) (offer_rows (n + 1) os)))
    settle false more = more

abbrev titled_by : Named → Offer → Bool
titled_by key o = is_titled o && is_key key (key_of_offer o)

first_titled : (all os : List Offer) (n : ℕ) (key : Named) → ((k : ℕ) → slice_get all (n + k) ≡ slice_get os k) → IsRow all (first_offer (titled_by key) os) (number_of (outcome (titled_rows n os) key))
first_titled all [] n key at = refl
first_titled all (o ∷ os) n key at = settle (is_titled o) (is_key key (key_of_offer o)) refl (first_titled all os (n + 1) key (shifted all o os n at))
  where
    settle : (t b : Bool) → is_key key (key_of_offer o) ≡ b → IsRow all (first_offer (titled_by key) os) (number_of (outcome (titled_rows (n + 1) os) key))
        → IsRow all (if (t && b) then Some o.member else first_offer (titled_by key) os) (number_of (outcome (if t then (key_of_offer o, n) ∷ (titled_rows (n + 1) os) else (titled_rows (n + 1) os)) key))
    settle true true e more =
        row_some all n o _ (at_first all o os n at) (ap (λ (x : Bool). number_of (seen_of (if x then (key_of_offer o, n) ∷ filter (is_row key) (titled_rows (n + 1) os) else filter (is_row key) (titled_rows (n + 1) os)))) e ∙ seen_some (key_of_offer o, n) (filter (is_row key) (titled_rows (n + 1) os)))
    settle true false e more =
        subst (λ (x : Bool). IsRow all (first_offer (titled_by key) os) (number_of (seen_of (if x then (key_of_offer o, n) ∷ filter (is_row key) (titled_rows (n + 1) os) else filter (is_row key) (titled_rows (n + 1) os))))) (sym e) more
    settle false true e more = more
    settle false false e more = more

-- the first of two
either : (all : List Offer) (a b : Option Member) (x y : Option ℕ) → IsRow all a x → IsRow all b y → IsRow all (option_or a b) (option_or x y)
either all a b None y p q = subst (λ (o : Option Member). IsRow all (option_or o b) y) (sym p) q
either all a b (Some n) y p q =
    let is : a ≡ Some p.0.member = p.2 in
    subst (λ (o : Option Member). IsRow all (option_or o b) (Some n)) (sym is) (p.0, p.1, refl)

-- ---- the tests of rows

unit_same : (b p x y : Bool) → ((b && true) && (p && x && y)) ≡ ((if p then (x && y) else false) && b)
unit_same true true true true = refl
unit_same true true true false = refl
unit_same true true false true = refl
unit_same true true false false = refl
unit_same true false true true = refl
unit_same true false true false = refl
unit_same true false false true = refl
unit_same true false false false = refl
unit_same false true true true = refl
unit_same false true true false = refl
unit_same false true false true = refl
unit_same false true false false = refl
unit_same false false true true = refl
unit_same false false true false = refl
unit_same false false false true = refl
unit_same false false false false = refl

step_by : (f r : ℕ) (p : Bool) (f' r' : ℕ) → is_step (OfUnit f r) (if p then OfUnit f' r' else Everyone) ≡ (if p then (f == f' && r == r') else false)
step_by f r true f' r' = refl
step_by f r false f' r' = refl

all_by : (p : Bool) (f' r' : ℕ) → is_step Everyone (if p then OfUnit f' r' else Everyone) ≡ not p
all_by true f' r' = refl
all_by false f' r' = refl

all_same : (b p : Bool) → ((b && true) && not p) ≡ (not p && b)
all_same true true = refl
all_same true false = refl
all_same false true = refl
all_same false false = refl

abbrev use_one : List ℕ → ℕ → Use
use_one name at = record { want = wants.One; name = name; at = at }

own_test : (m : Member) (name : List ℕ) (at : ℕ) (o : Offer) → (counts_for (use_one name at) o && is_of_member m o) ≡ by_key (record { step = OfUnit m.file m.from; name = name }) o
own_test m name at o =
    unit_same (bytes_eq name o.name) o.private (m.file == o.member.file) (m.from == o.member.from)
    ∙ ap (λ (s : Bool). s && bytes_eq name o.name) (sym (step_by m.file m.from o.private o.member.file o.member.from))

all_test : (name : List ℕ) (at : ℕ) (o : Offer) → (counts_for (use_one name at) o && not o.private) ≡ by_key (record { step = Everyone; name = name }) o
all_test name at o =
    all_same (bytes_eq name o.name) o.private
    ∙ ap (λ (s : Bool). s && bytes_eq name o.name) (sym (all_by o.private o.member.file o.member.from))

abbrev unit_key : Origin → List ℕ → Named
unit_key user name = record { step = OfUnit user.file user.from; name = name }

abbrev all_key : List ℕ → Named
all_key name = record { step = Everyone; name = name }

abbrev key_as : SearchStep → List ℕ → Named
key_as step name = record { step = step; name = name }

unit_key-same : (m : Member) (user : Origin) (name : List ℕ) → IsOf m user → key_as (OfUnit m.file m.from) name ≡ unit_key user name
unit_key-same m user name is = ap (λ (n : ℕ). key_as (OfUnit n m.from) name) is.0 ∙ ap (λ (n : ℕ). key_as (OfUnit user.file n) name) is.2

start : (os : List Offer) (k : ℕ) → slice_get os (0 + k) ≡ slice_get os k
start os k = let same : 0 + k ≡ k = omega arith in ap (slice_get os) same

-- the row for a definition
pub row_one : (os : List Offer) (m : Member) (user : Origin) (name : List ℕ) (at : ℕ) (answer : Option ℕ) → IsOf m user → answer ≡ first_number (offer_rows 0 os) (unit_key user name) (all_key name)
    → IsRow os (row_for os m (record { want = wants.One; name = name; at = at })) answer
unfolding row_for
row_one os m user name at answer is reported =
    let own : first_offer (λ o. counts_for (use_one name at) o && is_of_member m o) os ≡ first_offer (by_key (unit_key user name)) os =
    ap (λ (t : Offer → Bool). first_offer t os) (λ i o. own_test m name at o i) ∙ ap (λ (k : Named). first_offer (by_key k) os) (unit_key-same m user name is) in
    let every : first_offer (λ o. counts_for (use_one name at) o && not o.private) os ≡ first_offer (by_key (all_key name)) os =
    ap (λ (t : Offer → Bool). first_offer t os) (λ i o. all_test name at o i) in
    let both = either os (first_offer (by_key (unit_key user name)) os) (first_offer (by_key (all_key name)) os) (number_of (outcome (offer_rows 0 os) (unit_key user name))) (number_of (outcome (offer_rows 0 os) (all_key name)))
    (first_by_key os os 0 (unit_key user name) (start os)) (first_by_key os os 0 (all_key name) (start os)) in
    subst (IsRow os (option_or (first_offer (λ o. counts_for (use_one name at) o && is_of_member m o) os) (first_offer (λ o. counts_for (use_one name at) o && not o.private) os))) (sym reported)
    (subst (λ (a : Option Member). IsRow os (option_or a (first_offer (λ o. counts_for (use_one name at) o && not o.private) os)) (first_number (offer_rows 0 os) (unit_key user name) (all_key name))) (sym own)
    (subst (λ (b : Option Member). IsRow os (option_or (first_offer (by_key (unit_key user name)) os) b) (first_number (offer_rows 0 os) (unit_key user name) (all_key name))) (sym every) both))

-- ---- data segments

abbrev use_data : List ℕ → ℕ → Use
use_data name at = record { want = wants.Data; name = name; at = at }

has_same : (o : Offer) (name : List ℕ) → bytes_eq name o.name ≡ true → has_title o.member.segment name o.private ≡ is_titled o
has_same o name e = ap (λ (n : List ℕ). has_title o.member.segment n o.private) (bytes_same name o.name e)

and_true : (x : Bool) → x ≡ (x && true)
and_true true = refl
and_true false = refl

and_false : (t x : Bool) → (t && (x && false)) ≡ false
and_false true true = refl
and_false true false = refl
and_false false true = refl
and_false false false = refl

parts_same : (p x y : Bool) → (p && x && y) ≡ (if p then (x && y) else false)
parts_same true x y = refl
parts_same false x y = refl

abbrev use_any : List ℕ → ℕ → Use
use_any name at = record { want = wants.Any; name = name; at = at }

never : (b t : Bool) → ((b && false) && t) ≡ false
never true t = refl
never false t = refl

none_counts : (test : Offer → Bool) (name : List ℕ) (at : ℕ) (os : List Offer) → first_offer (λ o. counts_for (use_any name at) o && test o) os ≡ None
none_counts test name at [] = refl
none_counts test name at (o ∷ os) =
    ap (λ (b : Bool). if b then Some o.member else first_offer (λ x. counts_for (use_any name at) x && test x) os) (never (bytes_eq name o.name) (test o))
    ∙ none_counts test name at os

step_of : (p : Bool) (f r : ℕ) → step_for 0 f r (outer_scope p) ≡ (if p then OfUnit f r else Everyone)
step_of true f r = refl
step_of false f r = refl

titled_test : (s : SearchStep) (test : Bool) (name : List ℕ) (at : ℕ) (o : Offer) → test ≡ is_step s (step_of_offer o) → (counts_for (use_data name at) o && test) ≡ titled_by (record { step = s; name = name }) o
titled_test s test name at o is = settle (bytes_eq name o.name) refl
  where
    settle : (b : Bool) → bytes_eq name o.name ≡ b → ((b && has_title o.member.segment name o.private) && test) ≡ (is_titled o && (is_step s (step_of_offer o) && b))
    settle true e =
        ap (λ (h : Bool). h && test) (has_same o name e) ∙ ap (λ (t : Bool). is_titled o && t) is
        ∙ ap (λ (t : Bool). is_titled o && t) (and_true (is_step s (step_of_offer o)))
    settle false e = sym (and_false (is_titled o) (is_step s (step_of_offer o)))

own_step : (m : Member) (o : Offer) → is_of_member m o ≡ is_step (OfUnit m.file m.from) (step_of_offer o)
own_step m o = parts_same o.private (m.file == o.member.file) (m.from == o.member.from) ∙ sym (step_by m.file m.from o.private o.member.file o.member.from)

all_step : (o : Offer) → not o.private ≡ is_step Everyone (step_of_offer o)
all_step o = sym (all_by o.private o.member.file o.member.from)

-- the row for a USING name
pub row_data : (os : List Offer) (m : Member) (user : Origin) (name : List ℕ) (at : ℕ) (answer : Option ℕ) → IsOf m user → answer ≡ first_number (titled_rows 0 os) (unit_key user name) (all_key name)
    → IsRow os (row_for os m (record { want = wants.Data; name = name; at = at })) answer
unfolding row_for
row_data os m user name at answer is reported =
    let own : first_offer (λ o. counts_for (use_data name at) o && is_of_member m o) os ≡ first_offer (titled_by (unit_key user name)) os =
    ap (λ (t : Offer → Bool). first_offer t os) (λ i o. titled_test (OfUnit m.file m.from) (is_of_member m o) name at o (own_step m o) i) ∙ ap (λ (k : Named). first_offer (titled_by k) os) (unit_key-same m user name is) in
    let every : first_offer (λ o. counts_for (use_data name at) o && not o.private) os ≡ first_offer (titled_by (all_key name)) os =
    ap (λ (t : Offer → Bool). first_offer t os) (λ i o. titled_test Everyone (not o.private) name at o (all_step o) i) in
    let both = either os (first_offer (titled_by (unit_key user name)) os) (first_offer (titled_by (all_key name)) os) (number_of (outcome (titled_rows 0 os) (unit_key user name))) (number_of (outcome (titled_rows 0 os) (all_key name)))
    (first_titled os os 0 (unit_key user name) (start os)) (first_titled os os 0 (all_key name) (start os)) in
    subst (IsRow os (option_or (first_offer (λ o. counts_for (use_data name at) o && is_of_member m o) os) (first_offer (λ o. counts_for (use_data name at) o && not o.private) os))) (sym reported)
    (subst (λ (a : Option Member). IsRow os (option_or a (first_offer (λ o. counts_for (use_data name at) o && not o.private) os)) (first_number (titled_rows 0 os) (unit_key user name) (all_key name))) (sym own)
    (subst (λ (b : Option Member). IsRow os (option_or (first_offer (titled_by (unit_key user name)) os) b) (first_number (titled_rows 0 os) (unit_key user name) (all_key name))) (sym every) both))

-- a weak name has none
pub row_any : (os : List Offer) (m : Member) (name : List ℕ) (at : ℕ) → row_for os m (record { want = wants.Any; name = name; at = at }) ≡ None
unfolding row_for
row_any os m name at =
    ap (λ (a : Option Member). option_or a (first_offer (λ o. counts_for (use_any name at) o && not o.private) os)) (none_counts (λ o. is_of_member m o) name at os)
    ∙ none_counts (λ o. not o.private) name at os

-- ---- one row more

offer_rows-snoc : (n : ℕ) (os : List Offer) (o : Offer) → offer_rows n (os ++ o ∷ []) ≡ offer_rows n os ++ (key_of_offer o, n + length os) ∷ []
offer_rows-snoc n [] o = let same : n ≡ n + 0 = omega arith in ap (λ (k : ℕ). (key_of_offer o, k) ∷ []) same
offer_rows-snoc n (p ∷ os) o =
    let same : n + 1 + length os ≡ n + suc (length os) = omega arith in
    ap (λ (l : List Row). (key_of_offer p, n) ∷ l) (offer_rows-snoc (n + 1) os o ∙ ap (λ (k : ℕ). offer_rows (n + 1) os ++ (key_of_offer o, k) ∷ []) same)

titled_rows-snoc : (n : ℕ) (os : List Offer) (o : Offer) → titled_rows n (os ++ o ∷ []) ≡ (if is_titled o then titled_rows n os ++ (key_of_offer o, n + length os) ∷ [] else titled_rows n os)
titled_rows-snoc n [] o = let same : n ≡ n + 0 = omega arith in ap (λ (k : ℕ). if is_titled o then (key_of_offer o, k) ∷ [] else []) same
titled_rows-snoc n (p ∷ os) o =
    let same : n + 1 + length os ≡ n + suc (length os) = omega arith in
    settle (is_titled p) (is_titled o) (titled_rows-snoc (n + 1) os o ∙ ap (λ (k : ℕ). if is_titled o then titled_rows (n + 1) os ++ (key_of_offer o, k) ∷ [] else titled_rows (n + 1) os) same)
  where
    settle : (b t : Bool) → titled_rows (n + 1) (os ++ o ∷ []) ≡ (if t then titled_rows (n + 1) os ++ (key_of_offer o, n + suc (length os)) ∷ [] else titled_rows (n + 1) os)
        → (if b then (key_of_offer p, n) ∷ titled_rows (n + 1) (os ++ o ∷ []) else titled_rows (n + 1) (os ++ o ∷ []))
        ≡ (if t then (if b then (key_of_offer p, n) ∷ titled_rows (n + 1) os else titled_rows (n + 1) os) ++ (key_of_offer o, n + suc (length os)) ∷ [] else (if b then (key_of_offer p, n) ∷ titled_rows (n + 1) os else titled_rows (n + 1) os))
    settle true true e = ap (λ (l : List Row). (key_of_offer p, n) ∷ l) e
    settle true false e = ap (λ (l : List Row). (key_of_offer p, n) ∷ l) e
    settle false true e = e
    settle false false e = e

pub offered_none : (new : Offers) → new.origins.items ≡ [] → Indexes [] new.names → Indexes [] new.titles → AreOffers [] new
offered_none new origins names titles = record { origins = origins; names = names; titles = titles }

pub offered_more : (os : List Offer) (o : Offer) (old new : Offers) (name : List ℕ) (private : Bool) (origin : Origin) (titled : Bool) (step : SearchStep) (number : ℕ) → AreOffers os old → IsOfferOf o name private origin titled
    → ((p : ℕ) → step ≡ step_for p origin.file origin.from (outer_scope private)) → number ≡ length old.origins.items
    → ((rows : List Row) → Indexes rows old.titles → Indexes (if titled then rows ++ (record { step = step; name = name }, number) ∷ [] else rows) new.titles)
    → ((rows : List Row) → Indexes rows old.names → Indexes (rows ++ (record { step = step; name = name }, number) ∷ []) new.names)
    → new.origins.items ≡ old.origins.items ++ origin ∷ [] → AreOffers (os ++ o ∷ []) new
offered_more os o old new name private origin titled step number are is step_is number_is titles names origins =
    let size : number ≡ 0 + length os = omega (arith, number_is, ap length are.origins, length-map os origin_view) in
    let key : key_as step name ≡ key_of_offer o =
    ap (λ (s : SearchStep). key_as s name) (step_is 0 ∙ ap (λ (p : Bool). step_for 0 origin.file origin.from (outer_scope p)) (sym is.private')
    ∙ ap (λ (x : Origin). step_for 0 x.file x.from (outer_scope o.private)) (sym is.origin') ∙ step_of o.private o.member.file o.member.from)
    ∙ ap (λ (n : List ℕ). key_as (step_of_offer o) n) (sym is.name') in
    let row : (key_as step name, number) ≡ (key_of_offer o, 0 + length os) = ap (λ (k : Named). (k, number)) key ∙ ap (λ (n : ℕ). (key_of_offer o, n)) size in
    record {
      origins = origins ∙ ap (λ (l : List Origin). l ++ origin ∷ []) are.origins ∙ ap (λ (x : Origin). map origin_view os ++ x ∷ []) (sym is.origin') ∙ sym (map-append origin_view os (o ∷ []));
      names = subst (λ (l : List Row). Indexes l new.names) (ap (λ (r : Row). offer_rows 0 os ++ r ∷ []) row ∙ sym (offer_rows-snoc 0 os o)) (names (offer_rows 0 os) are.names);
      titles =
          subst (λ (l : List Row). Indexes l new.titles)
          (ap (λ (r : Row). if titled then titled_rows 0 os ++ r ∷ [] else titled_rows 0 os) row
          ∙ ap (λ (t : Bool). if t then titled_rows 0 os ++ (key_of_offer o, 0 + length os) ∷ [] else titled_rows 0 os) (sym is.titled') ∙ sym (titled_rows-snoc 0 os o))
          (titles (titled_rows 0 os) are.titles);
    }
