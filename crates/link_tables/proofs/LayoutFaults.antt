-- What is wrong with load segments, and their headers.
use Rattle.std.proofs.Common.{◌≡◌, ◌⊎◌, inl, inr, ℕ, zero, suc, ◌+◌, ◌≤◌, ◌<◌, min, Bool, true, false, not, List, [], ◌∷◌, ◌++◌, length, map, take, drop, Option, Some, None, refl, sym, ap, subst, ◌∙◌, arith}
use Rattle.std.specs.Prelude.{slice_get, option_map, ◌&&◌, ◌||◌, nat_lt, ◌==◌}
use Rattle.std.proofs.lemmas.Bool.{eq-eqb, ne_eqb}
use Rattle.std.proofs.lemmas.Bool.Decides.{nat_tests}
use Rattle.std.proofs.lemmas.List.{length-map, take-append-drop, length-take-le}
use Rattle.std.proofs.lemmas.Option.{slice_get-map, slice_get_within}
use Rattle.omf_base.specs.declared.spot.Spot.{Spot}
use Rattle.omf_format.specs.Name.{without_trailing}
use Rattle.omf_format.specs.Header.{HeaderFields, is_dynamic, is_skipped}
use Rattle.link_meaning.specs.declared.fault.LinkCause.TheVariants.{TooManySegments, SegmentTooLong, NotDynamic}
use Rattle.link_meaning.specs.declared.fault.LinkFault.{LinkFault}
use Rattle.link_meaning.specs.First.{HasNone, IsFirst}
use Rattle.link_meaning.specs.laws.FirstLaws.{none_more, none_yet}
use Rattle.link_meaning.specs.Member.{Member, form_in}
use Rattle.link_meaning.specs.declared.form.LinkForm.{LinkForm}
use Rattle.link_meaning.specs.declared.form.LinkForm.TheVariants.{Program, Runtime as LibraryForm}
use Rattle.link_meaning.specs.Layout.{load_names, load_length, load_members, least_bank, greatest_align, of_first, load_fields, headers_from, load_headers, load_segment_kind}
use Rattle.link_meaning.specs.LinkFaults.{HasOrgFault, HasLengthFault, HasKindFault, HasLayoutFault, LayoutCheck, Orgs, Count, Lengths, Kinds}
use Rattle.link_meaning.specs.laws.Steps.{is_too_long, may_not_stand}
use Rattle.link_tables.specs.declared.layout.LoadLayout.{LoadLayout}
use Rattle.link_tables.specs.declared.layout.LinkLayout as kept
use Rattle.link_tables.specs.Laid.{IsLoad, IsConflict, org_fault, Laid, layout_checks, is_long, AllShort, IsFirstLong, is_other, AllDynamic, IsFirstOther, ShowsLoad, AreHeaders}
use Rattle.link_tables.proofs.Lists.{drop_at, take_more}

-- ---- lengths

nat_lt-yes : (a b : ℕ) → a < b → nat_lt a b ≡ true
nat_lt-yes a b less = grind (arith, nat_tests)

nat_lt-no : (a b : ℕ) → b ≤ a → nat_lt a b ≡ false
nat_lt-no a b less = grind (arith, nat_tests)

le_or_less : (a b : ℕ) → (a ≤ b) ⊎ (b < a)
le_or_less zero b = inl (omega arith)
le_or_less (suc a) zero = inr (omega arith)
le_or_less (suc a) (suc b) = next (le_or_less a b)
  where
    next : (a ≤ b) ⊎ (b < a) → (suc a ≤ suc b) ⊎ (suc b < suc a)
    next (inl p) = inl (omega arith)
    next (inr p) = inr (omega arith)

abbrev long_by : ℕ → ℕ → Bool
long_by bank len = len == 16777216 || (not (bank == 0) && nat_lt bank len)

abbrev too_long_by : ℕ → ℕ → Bool
too_long_by bank len = nat_lt 0xFFFFFF len || (not (bank == 0) && nat_lt bank len)

or_right : (a b : Bool) → a ≡ false → (a || b) ≡ b
or_right a b e = ap (λ (x : Bool). x || b) e

or_left : (a b : Bool) → a ≡ true → (a || b) ≡ true
or_left a b e = ap (λ (x : Bool). x || b) e

-- an end that is kept says whether the end is too far
long_same : (bank end : ℕ) → long_by bank (min end 16777216) ≡ too_long_by bank end
long_same bank end = settle (le_or_less end 0xFFFFFF)
  where
    settle : (end ≤ 0xFFFFFF) ⊎ (0xFFFFFF < end) → long_by bank (min end 16777216) ≡ too_long_by bank end
    settle (inl p) =
        let same : min end 16777216 ≡ end = omega (arith, p) in
        ap (long_by bank) same
        ∙ or_right (end == 16777216) (not (bank == 0) && nat_lt bank end) (ne_eqb end 16777216 (λ e. omega (arith, e, p)))
        ∙ sym (or_right (nat_lt 0xFFFFFF end) (not (bank == 0) && nat_lt bank end) (nat_lt-no 0xFFFFFF end p))
    settle (inr p) =
        let same : min end 16777216 ≡ 16777216 = omega (arith, p) in
        or_left (min end 16777216 == 16777216) (not (bank == 0) && nat_lt bank (min end 16777216)) (eq-eqb (min end 16777216) 16777216 same)
        ∙ sym (or_left (nat_lt 0xFFFFFF end) (not (bank == 0) && nat_lt bank end) (nat_lt-yes 0xFFFFFF end p))

abbrev fields_of : List Member → ℕ → List ℕ → HeaderFields
fields_of list n x = load_fields list n x

long_is : (list : List Member) (n : ℕ) (load : LoadLayout) → IsLoad list load → is_long load ≡ is_too_long (fields_of list n load.load_name)
unfolding load_fields
long_is list n load is =
    ap (λ (b : ℕ). long_by b load.length) is.bank_size
    ∙ ap (long_by (least_bank (load_members load.load_name list))) is.length'
    ∙ long_same (least_bank (load_members load.load_name list)) (load_length load.load_name list)

-- ---- headers by their numbers

record IsHeaderAt (list : List Member) (n : ℕ) (names : List (List ℕ)) (j : ℕ) (f : HeaderFields) : Type 0 where
  name : List ℕ
  at : slice_get names j ≡ Some name
  is : f ≡ fields_of list (n + j) name

header_from : (list : List Member) (n : ℕ) (names : List (List ℕ)) (j : ℕ) (f : HeaderFields) → slice_get (headers_from list n names) j ≡ Some f → IsHeaderAt list n names j f
header_from list n [] j f e = absurd cc
header_from list n (x ∷ names) zero f e =
    let same : load_fields list n x ≡ f = cc in
    let number : n ≡ n + 0 = omega arith in
    record { name = x; at = refl; is = sym same ∙ ap (λ (k : ℕ). load_fields list k x) number }
header_from list n (x ∷ names) (suc j) f e =
    let rest = header_from list (n + 1) names j f e in
    let number : n + 1 + j ≡ n + suc j = omega arith in
    record { name = rest.name; at = rest.at; is = rest.is ∙ ap (λ (k : ℕ). load_fields list k rest.name) number }

header_there : (list : List Member) (n : ℕ) (names : List (List ℕ)) (j : ℕ) (x : List ℕ) → slice_get names j ≡ Some x → slice_get (headers_from list n names) j ≡ Some (load_fields list (n + j) x)
header_there list n [] j x e = absurd cc
header_there list n (y ∷ names) zero x e =
    let same : y ≡ x = cc in
    let number : n ≡ n + 0 = omega arith in
    ap (λ (z : List ℕ). some (load_fields list n z)) same ∙ ap (λ (k : ℕ). some (load_fields list k x)) number
  where
    some : HeaderFields → Option HeaderFields
    some f = Some f
header_there list n (y ∷ names) (suc j) x e =
    let number : n + 1 + j ≡ n + suc j = omega arith in
    header_there list (n + 1) names j x e ∙ ap (λ (k : ℕ). some (load_fields list k x)) number
  where
    some : HeaderFields → Option HeaderFields
    some f = Some f

name_at : (list : List Member) (layout : kept.LinkLayout) (k : ℕ) (load : LoadLayout) → Laid list layout → slice_get layout.loads.items k ≡ Some load → slice_get (load_names list) k ≡ Some load.load_name
name_at list layout k load laid there =
    ap (λ (l : List (List ℕ)). slice_get l k) (sym laid.named) ∙ slice_get-map (λ (l : LoadLayout). l.load_name) layout.loads.items k ∙ ap (option_map (λ (l : LoadLayout). l.load_name)) there

pub record HasLoad (layout : kept.LinkLayout) (k : ℕ) (x : List ℕ) : Type 0 where
  pub load : LoadLayout
  pub at : slice_get layout.loads.items k ≡ Some load
  pub name : load.load_name ≡ x

pub load_there : (list : List Member) (layout : kept.LinkLayout) (k : ℕ) (x : List ℕ) → Laid list layout → slice_get (load_names list) k ≡ Some x → HasLoad layout k x
load_there list layout k x laid e = settle (slice_get layout.loads.items k) refl
  where
    both : option_map (λ (l : LoadLayout). l.load_name) (slice_get layout.loads.items k) ≡ Some x
    both = sym (slice_get-map (λ (l : LoadLayout). l.load_name) layout.loads.items k) ∙ ap (λ (l : List (List ℕ)). slice_get l k) laid.named ∙ e

    text_same : (a b : List ℕ) → Some a ≡ Some b → a ≡ b
    text_same a b e = cc

    settle : (o : Option LoadLayout) → slice_get layout.loads.items k ≡ o → HasLoad layout k x
    settle None is = let clash : option_map (λ (l : LoadLayout). l.load_name) None ≡ Some x = sym (ap (option_map (λ (l : LoadLayout). l.load_name)) is) ∙ both in absurd cc
    settle (Some load) is = record { load = load; at = is; name = text_same load.load_name x (sym (ap (option_map (λ (l : LoadLayout). l.load_name)) is) ∙ both) }

-- the load segment of a header
record OfHeader (list : List Member) (layout : kept.LinkLayout) (k : ℕ) (f : HeaderFields) : Type 0 where
  load : LoadLayout
  at : slice_get layout.loads.items k ≡ Some load
  is : IsLoad list load
  fields : f ≡ fields_of list (1 + k) load.load_name

of_header : (list : List Member) (layout : kept.LinkLayout) (k : ℕ) (f : HeaderFields) → Laid list layout → slice_get (load_headers list) k ≡ Some f → OfHeader list layout k f
unfolding load_headers
of_header list layout k f laid e =
    let h = header_from list 1 (load_names list) k f e in
    let there = load_there list layout k h.name laid h.at in
    record {
      load = there.load;
      at = there.at;
      is = laid.loads k there.load there.at;
      fields = h.is ∙ ap (λ (x : List ℕ). fields_of list (1 + k) x) (sym there.name);
    }

-- ---- no fault

middle_at : {A : Type 0} → (xs : List A) (y : A) (ys : List A) → slice_get (xs ++ y ∷ ys) (length xs) ≡ Some y
middle_at [] y ys = refl
middle_at (x ∷ xs) y ys = middle_at xs y ys

true_false : (b : Bool) → b ≡ true → b ≡ false → ⊥
true_false b p q = let clash : true ≡ false = sym p ∙ q in cc

-- a test of load segments is one of their headers
abbrev IsTest : List Member → (LoadLayout → Bool) → (HeaderFields → Bool) → Type 0
IsTest list bad wrong = (n : ℕ) (load : LoadLayout) → IsLoad list load → bad load ≡ wrong (fields_of list n load.load_name)

-- what has a fault fails the test
abbrev Fails : (List HeaderFields → HeaderFields → LinkFault → Type 0) → (HeaderFields → Bool) → Type 0
Fails Has wrong = (before : List HeaderFields) (f : HeaderFields) (its : LinkFault) → Has before f its → wrong f ≡ true

-- where the load segments before a place pass, those before it have no fault
none_bad : (bad : LoadLayout → Bool) (wrong : HeaderFields → Bool) (Has : List HeaderFields → HeaderFields → LinkFault → Type 0) (list : List Member) (layout : kept.LinkLayout) (items : List HeaderFields) → IsTest list bad wrong → Fails Has wrong → Laid list layout
    → ((j : ℕ) (f : HeaderFields) → slice_get items j ≡ Some f → slice_get (load_headers list) j ≡ Some f)
    → ((j : ℕ) (load : LoadLayout) → j < length items → slice_get layout.loads.items j ≡ Some load → bad load ≡ false) → HasNone Has items
none_bad bad wrong Has list layout items test fails laid front fine before f rest its e has =
    let at : slice_get items (length before) ≡ Some f = ap (λ (l : List HeaderFields). slice_get l (length before)) e ∙ middle_at before f rest in
    let h = of_header list layout (length before) f laid (front (length before) f at) in
    let within = slice_get_within items (length before) f at in
    true_false (wrong f) (fails before f its has) (ap wrong h.fields ∙ sym (test (1 + length before) h.load h.is) ∙ fine (length before) h.load within h.at)

long_test : (list : List Member) → IsTest list is_long is_too_long
long_test list n load is = long_is list n load is

long_fails : (list : List Member) → Fails (HasLengthFault list) is_too_long
long_fails list before f its has = has.long

-- ---- kinds

kind_test : (list : List Member) → IsTest list is_other (may_not_stand LibraryForm)
unfolding load_fields
kind_test list n load is = ap (λ (kind : ℕ). not (is_dynamic kind && not (is_skipped kind))) is.kind

kind_fails : (list : List Member) (form : LinkForm) → form_in list ≡ form → Fails (HasKindFault list) (may_not_stand form)
kind_fails list form is before f its has = sym (ap (λ (x : LinkForm). may_not_stand x f) is) ∙ has.other

pub no_conflict : (list : List Member) (before : List LayoutCheck) (its : LinkFault) → HasNone HasOrgFault list → HasLayoutFault list before Orgs its → ⊥
no_conflict list before its none p = none p.before p.item p.after its p.parts p.here

pub no_count : (list : List Member) (before : List LayoutCheck) (its : LinkFault) → length (load_names list) ≤ 254 → HasLayoutFault list before Count its → ⊥
no_count list before its few p = let within = slice_get_within (load_names list) 254 p.load_name p.there in omega (arith, within, few)

pub no_long : (list : List Member) (layout : kept.LinkLayout) (before : List LayoutCheck) (its : LinkFault) → Laid list layout → AllShort layout.loads.items → HasLayoutFault list before Lengths its → ⊥
no_long list layout before its laid short p =
    none_bad is_long is_too_long (HasLengthFault list) list layout (load_headers list) (long_test list) (long_fails list) laid (λ j f e. e) (λ j load within there. short j load there) p.before p.item p.after its p.parts p.here

-- of a program no kind is a fault, and of a run-time library file none is where all are allowed
abbrev pub FineKinds : LinkForm → List LoadLayout → Type 0
FineKinds Program loads = Unit {0}
FineKinds LibraryForm loads = AllDynamic loads

pub no_kinds : (form : LinkForm) (list : List Member) (layout : kept.LinkLayout) (before : List LayoutCheck) (its : LinkFault) → form_in list ≡ form → Laid list layout → FineKinds form layout.loads.items → HasLayoutFault list before Kinds its → ⊥
no_kinds Program list layout before its is laid fine p = let clash : false ≡ true = kind_fails list Program is p.before p.item its p.here in absurd cc
no_kinds LibraryForm list layout before its is laid fine p =
    none_bad is_other (may_not_stand LibraryForm) (HasKindFault list) list layout (load_headers list) (kind_test list) (kind_fails list LibraryForm is) laid (λ j f e. e) (λ j load within there. fine j load there)
    p.before p.item p.after its p.parts p.here

abbrev upto_orgs : List LayoutCheck
upto_orgs = Orgs ∷ []

abbrev upto_count : List LayoutCheck
upto_count = Orgs ∷ Count ∷ []

abbrev upto_lengths : List LayoutCheck
upto_lengths = Orgs ∷ Count ∷ Lengths ∷ []

none_orgs : (list : List Member) → HasNone HasOrgFault list → HasNone (HasLayoutFault list) upto_orgs
none_orgs list none = none_more (HasLayoutFault list) [] Orgs (none_yet (HasLayoutFault list)) (λ its. no_conflict list [] its none)

none_count : (list : List Member) → HasNone HasOrgFault list → length (load_names list) ≤ 254 → HasNone (HasLayoutFault list) upto_count
none_count list none few = none_more (HasLayoutFault list) upto_orgs Count (none_orgs list none) (λ its. no_count list upto_orgs its few)

none_lengths : (list : List Member) (layout : kept.LinkLayout) → Laid list layout → HasNone HasOrgFault list → length (load_names list) ≤ 254 → AllShort layout.loads.items → HasNone (HasLayoutFault list) upto_lengths
none_lengths list layout laid none few short = none_more (HasLayoutFault list) upto_count Lengths (none_count list none few) (λ its. no_long list layout upto_count its laid short)

pub none_all : (form : LinkForm) (list : List Member) (layout : kept.LinkLayout) → form_in list ≡ form → Laid list layout → HasNone HasOrgFault list → length (load_names list) ≤ 254 → AllShort layout.loads.items
    → FineKinds form layout.loads.items → HasNone (HasLayoutFault list) layout_checks
none_all form list layout is laid none few short fine =
    none_more (HasLayoutFault list) upto_lengths Kinds (none_lengths list layout laid none few short) (λ its. no_kinds form list layout upto_lengths its is laid fine)

-- ---- a fault

pub at_orgs : (list : List Member) (spot : Spot) (fault : LinkFault) → IsConflict list (Some spot) → fault ≡ org_fault spot → IsFirst (HasLayoutFault list) layout_checks fault
at_orgs list spot fault is reported = record { before = []; item = Orgs; after = Count ∷ Lengths ∷ Kinds ∷ []; parts = refl; none = none_yet (HasLayoutFault list); here = subst (IsFirst HasOrgFault list) (sym reported) is }

pub at_count : (list : List Member) (layout : kept.LinkLayout) (load : LoadLayout) (fault : LinkFault) → Laid list layout → HasNone HasOrgFault list → slice_get layout.loads.items 254 ≡ Some load
    → fault ≡ record { cause = TooManySegments; name = None; spot = load.first } → IsFirst (HasLayoutFault list) layout_checks fault
at_count list layout load fault laid none there reported = record {
  before = upto_orgs;
  item = Count;
  after = Lengths ∷ Kinds ∷ [];
  parts = refl;
  none = none_orgs list none;
  here = record { load_name = load.load_name; there = name_at list layout 254 load laid there; reported = reported ∙ ap (λ (s : Spot). count_fault s) (laid.loads 254 load there).first };
}
  where
    count_fault : Spot → LinkFault
    count_fault s = record { cause = TooManySegments; name = None; spot = s }

take_at : {A : Type 0} → (xs : List A) (n j : ℕ) (x : A) → slice_get (take n xs) j ≡ Some x → slice_get xs j ≡ Some x
take_at [] zero j x e = absurd cc
take_at [] (suc n) j x e = absurd cc
take_at (y ∷ xs) zero j x e = absurd cc
take_at (y ∷ xs) (suc n) zero x e = e
take_at (y ∷ xs) (suc n) (suc j) x e = take_at xs n j x e

at_take : {A : Type 0} → (xs : List A) (n j : ℕ) (x : A) → j < n → slice_get xs j ≡ Some x → slice_get (take n xs) j ≡ Some x
at_take [] n j x less e = absurd cc
at_take (y ∷ xs) zero j x less e = absurd (omega arith)
at_take (y ∷ xs) (suc n) zero x less e = e
at_take (y ∷ xs) (suc n) (suc j) x less e = at_take xs n j x (omega arith) e

take_few : {A : Type 0} → (n : ℕ) (xs : List A) → length (take n xs) ≤ n
take_few zero [] = omega arith
take_few zero (x ∷ xs) = omega arith
take_few (suc n) [] = omega arith
take_few (suc n) (x ∷ xs) = let rest = take_few n xs in omega arith

-- the first load segment that fails a test has the first fault
first_bad : (bad : LoadLayout → Bool) (wrong : HeaderFields → Bool) (Has : List HeaderFields → HeaderFields → LinkFault → Type 0) (list : List Member) (layout : kept.LinkLayout) (k : ℕ) (load : LoadLayout) (fault : LinkFault) → IsTest list bad wrong → Fails Has wrong
    → Laid list layout → slice_get layout.loads.items k ≡ Some load
    → ((j : ℕ) (other : LoadLayout) → slice_get (take k layout.loads.items) j ≡ Some other → bad other ≡ false)
    → Has (take k (load_headers list)) (fields_of list (1 + k) load.load_name) fault → IsFirst Has (load_headers list) fault
unfolding load_headers
first_bad bad wrong Has list layout k load fault test fails laid at before here =
    let headers = headers_from list 1 (load_names list) in
    let f = load_fields list (1 + k) load.load_name in
    let there = header_there list 1 (load_names list) k load.load_name (name_at list layout k load laid at) in
    record {
      before = take k headers;
      item = f;
      after = drop (k + 1) headers;
      parts = sym (take-append-drop k headers) ∙ ap (λ (l : List HeaderFields). take k headers ++ l) (drop_at headers k f there);
      none = none_bad bad wrong Has list layout (take k headers) test fails laid (λ j g e. take_at headers k j g e)
          (λ j other within found. let fewer = take_few k headers in before j other (at_take layout.loads.items k j other (omega (arith, within, fewer)) found));
      here = here;
    }

pub at_lengths : (list : List Member) (layout : kept.LinkLayout) (spot : Spot) (fault : LinkFault) → Laid list layout → HasNone HasOrgFault list → length (load_names list) ≤ 254 → IsFirstLong layout.loads.items spot
    → fault ≡ record { cause = SegmentTooLong; name = None; spot = spot } → IsFirst (HasLayoutFault list) layout_checks fault
unfolding load_fields
at_lengths list layout spot fault laid none few first reported =
    let is = laid.loads first.k first.load first.at in
    record {
      before = upto_count;
      item = Lengths;
      after = Kinds ∷ [];
      parts = refl;
      none = none_count list none few;
      here = first_bad is_long is_too_long (HasLengthFault list) list layout first.k first.load fault (long_test list) (long_fails list) laid first.at first.before
          record { long = sym (long_is list (1 + first.k) first.load is) ∙ first.long; reported = reported ∙ ap long_fault (first.spot' ∙ is.first) };
    }
  where
    long_fault : Spot → LinkFault
    long_fault s = record { cause = SegmentTooLong; name = None; spot = s }

pub at_kinds : (list : List Member) (layout : kept.LinkLayout) (spot : Spot) (fault : LinkFault) → form_in list ≡ LibraryForm → Laid list layout → HasNone HasOrgFault list → length (load_names list) ≤ 254 → AllShort layout.loads.items
    → IsFirstOther layout.loads.items spot → fault ≡ record { cause = NotDynamic; name = None; spot = spot } → IsFirst (HasLayoutFault list) layout_checks fault
unfolding load_fields
at_kinds list layout spot fault form laid none few short first reported =
    let is = laid.loads first.k first.load first.at in
    let x = first.load.load_name in
    record {
      before = upto_lengths;
      item = Kinds;
      after = [];
      parts = refl;
      none = none_lengths list layout laid none few short;
      here = first_bad is_other (may_not_stand LibraryForm) (HasKindFault list) list layout first.k first.load fault (kind_test list) (kind_fails list LibraryForm form) laid first.at
          (λ j load found. first.before j load found)
          record {
            other = ap (λ (f : LinkForm). may_not_stand f (fields_of list (1 + first.k) x)) form ∙ sym (kind_test list (1 + first.k) first.load is) ∙ first.other;
            reported = reported ∙ ap kind_fault (first.spot' ∙ is.first);
          };
    }
  where
    kind_fault : Spot → LinkFault
    kind_fault s = record { cause = NotDynamic; name = None; spot = s }

-- ---- the headers

pub length_short : (list : List Member) (load : LoadLayout) → IsLoad list load → is_long load ≡ false → load.length ≡ load_length load.load_name list
length_short list load is short = settle (le_or_less (load_length load.load_name list) 0xFFFFFF)
  where
    settle : (load_length load.load_name list ≤ 0xFFFFFF) ⊎ (0xFFFFFF < load_length load.load_name list) → load.length ≡ load_length load.load_name list
    settle (inl p) = omega (arith, is.length', p)
    settle (inr p) =
        let most : load.length ≡ 16777216 = omega (arith, is.length', p) in
        absurd (true_false (is_long load) (or_left (load.length == 16777216) (not (load.bank_size == 0) && nat_lt load.bank_size load.length) (eq-eqb load.length 16777216 most)) short)

one_header : (list : List Member) (n : ℕ) (load : LoadLayout) (f : HeaderFields) → IsLoad list load → is_long load ≡ false → ShowsLoad load n f → f ≡ load_fields list n load.load_name
unfolding load_fields
one_header list n load f is short shows =
    shows.fields
    ∙ ap (λ (x : ℕ). header_with x load.bank_size load.kind.bits load.org load.align load.entry) (length_short list load is short)
    ∙ ap (λ (x : ℕ). header_with (load_length load.load_name list) x load.kind.bits load.org load.align load.entry) is.bank_size
    ∙ ap (λ (x : ℕ). header_with (load_length load.load_name list) (least_bank members) x load.org load.align load.entry) is.kind
    ∙ ap (λ (x : ℕ). header_with (load_length load.load_name list) (least_bank members) (load_segment_kind (of_first (λ (g : HeaderFields). g.kind) members)) x load.align load.entry) is.org
    ∙ ap (λ (x : ℕ). header_with (load_length load.load_name list) (least_bank members) (load_segment_kind (of_first (λ (g : HeaderFields). g.kind) members)) (of_first (λ (g : HeaderFields). g.org) members) x load.entry) is.align
    ∙ ap (λ (x : ℕ). header_with (load_length load.load_name list) (least_bank members) (load_segment_kind (of_first (λ (g : HeaderFields). g.kind) members)) (of_first (λ (g : HeaderFields). g.org) members) (greatest_align members) x) is.entry
  where
    members : List Member
    members = load_members load.load_name list

    header_with : ℕ → ℕ → ℕ → ℕ → ℕ → ℕ → HeaderFields
    header_with len bank kind org align entry = record {
      byte_count = 0;
      res_spc = 0;
      length = len;
      lab_len = 0;
      version = 2;
      bank_size = bank;
      kind = kind;
      org = org;
      align = align;
      seg_num = n;
      entry = entry;
      disp_name = 0;
      disp_data = 0;
      load_name = load.load_name;
      name = without_trailing 32 load.load_name;
    }

headers_are : (list : List Member) (n : ℕ) (loads : List LoadLayout) (fs : List HeaderFields) → ((k : ℕ) (load : LoadLayout) → slice_get loads k ≡ Some load → IsLoad list load) → AllShort loads → AreHeaders n loads fs → fs ≡ headers_from list n (map (λ l. l.load_name) loads)
headers_are list n [] fs each short are = are
headers_are list n (load ∷ loads) [] each short are = absurd are
headers_are list n (load ∷ loads) (f ∷ fs) each short are =
    ap (λ (g : HeaderFields). g ∷ fs) (one_header list n load f (each 0 load refl) (short 0 load refl) are.0)
    ∙ ap (λ (l : List HeaderFields). load_fields list n load.load_name ∷ l) (headers_are list (n + 1) loads fs (λ k l e. each (suc k) l e) (λ k l e. short (suc k) l e) are.1)

pub all_headers : (list : List Member) (layout : kept.LinkLayout) (fs : List HeaderFields) → Laid list layout → AllShort layout.loads.items → AreHeaders 1 layout.loads.items fs → fs ≡ load_headers list
unfolding load_headers
all_headers list layout fs laid short are = headers_are list 1 layout.loads.items fs laid.loads short are ∙ ap (headers_from list 1) laid.named

-- one more header
headers-snoc : (n : ℕ) (loads : List LoadLayout) (fs : List HeaderFields) (load : LoadLayout) (f : HeaderFields) → AreHeaders n loads fs → ShowsLoad load (n + length loads) f → AreHeaders n (loads ++ load ∷ []) (fs ++ f ∷ [])
headers-snoc n [] [] load f are shows = let same : n + 0 ≡ n = omega arith in (subst (λ (k : ℕ). ShowsLoad load k f) same shows, refl)
headers-snoc n [] (g ∷ fs) load f are shows = absurd cc
headers-snoc n (l ∷ loads) [] load f are shows = absurd are
headers-snoc n (l ∷ loads) (g ∷ fs) load f are shows =
    let same : n + suc (length loads) ≡ n + 1 + length loads = omega arith in
    (are.0, headers-snoc (n + 1) loads fs load f are.1 (subst (λ (k : ℕ). ShowsLoad load k f) same shows))

pub headers_next : (loads : List LoadLayout) (k number : ℕ) (load : LoadLayout) (fs : List HeaderFields) (f : HeaderFields) → slice_get loads k ≡ Some load → number ≡ k → AreHeaders 1 (take k loads) fs → ShowsLoad load (number + 1) f
    → AreHeaders 1 (take (k + 1) loads) (fs ++ f ∷ [])
headers_next loads k number load fs f at is are shows =
    let within = slice_get_within loads k load at in
    let size = length-take-le k loads (omega (arith, within)) in
    let same : number + 1 ≡ 1 + length (take k loads) = omega (arith, is, size) in
    subst (λ (l : List LoadLayout). AreHeaders 1 l (fs ++ f ∷ [])) (sym (take_more loads k load at))
    (headers-snoc 1 (take k loads) fs load f are (subst (λ (n : ℕ). ShowsLoad load n f) same shows))

-- the load segments are as many as the names
pub loads_are : (list : List Member) (layout : kept.LinkLayout) → Laid list layout → length layout.loads.items ≡ length (load_names list)
loads_are list layout laid = sym (length-map layout.loads.items (λ (l : LoadLayout). l.load_name)) ∙ ap length laid.named

pub conflict_is : (list : List Member) (layout : kept.LinkLayout) (spot : Spot) → Laid list layout → layout.conflict ≡ Some spot → IsConflict list (Some spot)
conflict_is list layout spot laid is = subst (IsConflict list) is laid.conflict

pub conflict_free : (list : List Member) (layout : kept.LinkLayout) → Laid list layout → layout.conflict ≡ None → HasNone HasOrgFault list
conflict_free list layout laid is = subst (IsConflict list) is laid.conflict
