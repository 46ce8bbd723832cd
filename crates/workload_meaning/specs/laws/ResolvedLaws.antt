-- The workload's object is resolved: no phase up to layout finds a fault.
use Rattle.std.proofs.Common.{◌≡◌, ℕ, zero, suc, ◌+◌, ◌<◌, ◌≤◌, Bool, true, false, not, eqb, ltb, List, [], ◌∷◌, ◌++◌, length, map, filter, refl, sym, ap, subst, ◌∙◌, arith, inl, inr}
use Rattle.std.specs.Prelude.{codes, Option, Some, None, Result, Ok, Err, ◌⊎◌, ◌&&◌, ◌||◌, ◌==◌, slice_get, option_map}
use Rattle.std.specs.Option.{option_or}
use Rattle.std.specs.List.{AllByRecursion}
use Rattle.std.specs.Str.{bytes_eq}
use Rattle.std.proofs.lemmas.Bool.{cases_Bool, eq-eqb, le-ltb}
use Rattle.std.proofs.lemmas.List.{append-nil, length-append, length-map}
use Rattle.std.proofs.lemmas.Slice.Eq.{bytes_eq-Decides}
use Rattle.omf_format.specs.Header.{HeaderFields, alignment_of, first_of}
use Rattle.omf_format.specs.Record.{Record, End, Const, LongConst, Align, Org, Space, Reloc, InterSeg, ShortReloc, ShortInterSeg, Super, Using, Strong, Label, Equate, Formula, Entry}
use Rattle.omf_format.specs.File.{Segment, IsFile}
use Rattle.omf_format.specs.laws.FileLaws.{file_same, no_file}
use Rattle.link_meaning.specs.declared.fault.LinkCause.{LinkCause}
use Rattle.link_meaning.specs.declared.fault.LinkCause.TheVariants.{Unsupported, BadRecord}
use Rattle.link_meaning.specs.declared.fault.LinkFault.{LinkFault}
use Rattle.link_meaning.specs.declared.search.SearchKind.TheVariants.{One}
use Rattle.link_meaning.specs.First.{IsIn, HasNone, IsFirst, first_some}
use Rattle.object_meaning.specs.Sizes.{body_size}
use Rattle.link_meaning.specs.declared.form.LinkForm.{LinkForm}
use Rattle.link_meaning.specs.declared.form.LinkForm.TheVariants.{Program}
use Rattle.link_meaning.specs.Member.{OfferedRow, Input, RuntimeFile, LinkSetting, without_runtimes, Member, is_library, members_from, objects, setting_in, Offer, library_offers}
use Rattle.link_meaning.specs.Uses.{Use, uses_of}
use Rattle.link_meaning.specs.Search.{FoundDefinition, finds}
use Rattle.link_meaning.specs.LinkedList.{PlacedUse, asked_from, all_uses, found_for, row_for, wanted_by, wanted, Follow, IsLinked}
use Rattle.link_meaning.specs.Layout.{in_load, end_from, load_length, distinct, load_names, load_members, least_bank, load_fields, headers_from, load_headers}
use Rattle.link_meaning.specs.laws.LayoutLaws.{aligned_from-least}
use Rattle.link_meaning.specs.LinkFaults.{plain, InputPart, OfInput, AreRuntimes, IsSetting, HasPartFault, type_fault, record_fault, segment_fault, segments_fault, rows_in_file, HasFileFault, OfFile, OfSegment, OfDictionary, IsInput, AreInputs, IsProgram, use_cause, HasUseFault, HasOrgFault, HasLengthFault, HasKindFault, LayoutCheck, Orgs, Count, Lengths, Kinds, HasLayoutFault, Phase, Reading, Objects, Names, Layout, HasPhaseFault, IsResolved}
use Rattle.link_meaning.specs.laws.Steps.{with_place, records_fault, length_fault, is_too_long, may_not_stand, unless_found, aligned_from, lesser_bank, phases}
use Rattle.workload_meaning.specs.Object.{name_of, padded}
use Rattle.workload_meaning.specs.laws.NameLaws.{padded_differs, padded_not_main}
use Rattle.workload_meaning.specs.laws.ObjectLaws.{IsOwnRecord, IsOwn, AreDynamic, IsWorkload}
use Rattle.workload_meaning.specs.laws.SearchLaws.{AreOwn, members_own, AreNamed, IsOwnUse, uses_are, title_at, IsNamedAt, named_after, finds_one}

-- ---- reading

record_none : (n align : ℕ) (r : Record) → IsOwnRecord n r → record_fault align r ≡ None
record_none n align End is = refl
record_none n align (Const bytes) is = refl
record_none n align (LongConst bytes) is = refl
record_none n align (Formula code count k expr) is = refl
record_none n align (Align k) is = absurd is
record_none n align (Org k) is = absurd is
record_none n align (Space k) is = absurd is
record_none n align (Reloc count shift location offset) is = absurd is
record_none n align (InterSeg count shift location file segment offset) is = absurd is
record_none n align (ShortReloc count shift location offset) is = absurd is
record_none n align (ShortInterSeg count shift location segment offset) is = absurd is
record_none n align (Super form bytes) is = absurd is
record_none n align (Using name) is = absurd is
record_none n align (Strong name) is = absurd is
record_none n align (Label global name size form private) is = absurd is
record_none n align (Equate global name size form private expr) is = absurd is
record_none n align (Entry segment offset name) is = absurd is

records_none : (n align : ℕ) (founds : List (ℕ × Record)) → AllByRecursion (IsOwnRecord n) (map (λ found. found.1) founds) → records_fault align founds ≡ None
records_none n align [] own = refl
records_none n align (found ∷ founds) own =
    ap (λ (o : Option LinkCause). option_or (option_map (with_place found.0) o) (records_fault align founds)) (record_none n align found.1 own.0) ∙ records_none n align founds own.1

abbrev type_of : Bool → ℕ → Option LinkCause
type_of first form = first_of ((form == 0x02, Unsupported) ∷ (form == 0x04, Unsupported) ∷ (form == 0x08 && not first, BadRecord) ∷ [])

no_fault : (first : Bool) (n : ℕ) (s : Segment) → IsOwn n s → segment_fault first s ≡ None
unfolding segment_fault
no_fault first n s own =
    let type : type_fault first s.fields ≡ None = ap (type_of first) own.form in
    let len : length_fault s ≡ None = rw (eq-eqb s.fields.length (body_size s + s.fields.res_spc) (omega (arith, own.length', own.res_spc))) refl in
    ap (λ (o : Option LinkCause). option_or (option_map (with_place s.start) o) (option_or (records_fault (alignment_of s.fields.align) s.records) (length_fault s))) type
    ∙ ap (λ (o : Option (LinkCause × ℕ)). option_or o (length_fault s)) (records_none n (alignment_of s.fields.align) s.records own.body)
    ∙ len

no_faults : (n number : ℕ) (segments : List Segment) → AllByRecursion (IsOwn n) segments → segments_fault number segments ≡ None
no_faults n number [] own = refl
no_faults n number (s ∷ segments) own =
    ap (λ (o : Option (LinkCause × ℕ)). option_or (option_map (λ (found : LinkCause × ℕ). (number, found)) o) (segments_fault (number + 1) segments)) (no_fault (eqb number 1) n s own.0)
    ∙ no_faults n (number + 1) segments own.1

dynamic_own : (n i : ℕ) (all : List ℕ) (segments : List Segment) → AreDynamic n i all segments → AllByRecursion (IsOwn n) segments × (length segments ≡ length all)
dynamic_own n i [] [] are = (tt, refl)
dynamic_own n i [] (s ∷ segments) are = absurd are
dynamic_own n i (draw ∷ all) [] are = absurd are
dynamic_own n i (draw ∷ all) (s ∷ segments) are = let rest = dynamic_own n (i + 1) all segments are.2 in ((are.0, rest.0), ap suc rest.1)

dynamic_named : (n i number : ℕ) (all : List ℕ) (segments : List Segment) → AreDynamic n i all segments → AreNamed i (members_from without_runtimes 1 number segments)
dynamic_named n i number [] [] are = tt
dynamic_named n i number [] (s ∷ segments) are = absurd are
dynamic_named n i number (draw ∷ all) [] are = absurd are
dynamic_named n i number (draw ∷ all) (s ∷ segments) are = (are.1.name', are.1.load_name, dynamic_named n (i + 1) (number + 1) all segments are.2)

-- ---- the linked list

length-members : (file number : ℕ) (segments : List Segment) → length (members_from without_runtimes file number segments) ≡ length segments
length-members file number [] = refl
length-members file number (s ∷ segments) = ap suc (length-members file (number + 1) segments)

only_one : {A : Type 0} (x y : A) (front back : List A) → x ∷ [] ≡ front ++ y ∷ back → y ≡ x
only_one x y [] back e = cc
only_one x y (z ∷ front) back e = absurd (omega (arith, ap length e, length-append front (y ∷ back)))

none_first : {A B : Type 0} (f : A → Option B) (xs : List A) → ((x : A) → f x ≡ None) → first_some f xs ≡ None
none_first f [] none = refl
none_first f (x ∷ xs) none = ap (λ o. option_or o (first_some f xs)) (none x) ∙ none_first f xs none

-- without rows nothing is wanted
none_wanted : (list : List Member) → wanted [] list ≡ None
unfolding wanted row_for
none_wanted list = none_first (λ (a : PlacedUse). wanted_by [] list a.place a.member a.use') (all_uses list) (λ a. none (found_for list a.place a.member a.use'))
  where
    none : (found : List FoundDefinition) → unless_found found None ≡ None
    none [] = refl
    none (f ∷ found) = refl

abbrev some_member : Member → Option Member
some_member m = Some m

abbrev no_member : Option Member
no_member = None

none_follow : (before added : List Member) → Follow [] before added → added ≡ []
none_follow before [] follow = refl
none_follow before (m ∷ added) follow = let clash : no_member ≡ some_member m = sym (none_wanted before) ∙ follow.0 in absurd cc

pub never : {A B : Type 0} (Has : List A → A → B → Type 0) (items : List A) → ((front : List A) (item : A) (its : B) → Has front item its → ⊥) → HasNone Has items
never Has items none front other rest its e has = none front other its has

-- so it is too where what is in the list has nothing
pub never_in : {A B : Type 0} (Has : List A → A → B → Type 0) (items : List A) → ((front : List A) (item : A) (its : B) → IsIn items item → Has front item its → ⊥) → (what : B) → IsFirst Has items what → ⊥
never_in {A} Has items none what first = none first.before first.item what (subst (λ l. IsIn l first.item) (sym first.parts) (there first.before)) first.here
  where
    there : (front : List A) → IsIn (front ++ first.item ∷ first.after) first.item
    there [] = inl refl
    there (x ∷ front) = inr (there front)

pub all_in : {A : Type 0} (P : A → Type 0) (xs : List A) (x : A) → AllByRecursion P xs → IsIn xs x → P x
all_in P [] x all is = absurd is
all_in P (y ∷ ys) x all (inl e) = subst P e all.0
all_in P (y ∷ ys) x all (inr more) = all_in P ys x all.1 more

-- ---- a workload's object

-- the members of the object: the segment MAIN, and those that it calls
pub record IsList (n : ℕ) (list : List Member) : Type 0 where
  pub main : Member
  pub others : List Member
  pub parts : list ≡ main ∷ others
  pub all : AreOwn n list
  pub title : main.segment.fields.name ≡ codes "MAIN"
  pub load_name : main.segment.fields.load_name ≡ padded (codes "MAIN")
  pub named' : AreNamed 1 others
  pub count : length others ≡ n
  pub setting' : main.setting ≡ without_runtimes

pub is_list : (n : ℕ) (sizes : List ℕ) (segments : List Segment) → length sizes ≡ n → IsWorkload n sizes segments → IsList n (members_from without_runtimes 1 1 segments)
is_list n sizes segments size w =
    let dynamic = dynamic_own n 1 sizes w.others w.dynamic in
    subst (λ (l : List Segment). IsList n (members_from without_runtimes 1 1 l)) (sym w.parts) (record {
      main = record { file = 1; number = 1; from = 0; segment = w.main; setting = without_runtimes };
      others = members_from without_runtimes 1 2 w.others;
      parts = refl;
      all = (w.own, members_own n 1 2 w.others dynamic.0);
      title = w.calls'.name';
      load_name = w.calls'.load_name;
      named' = dynamic_named n 1 2 sizes w.others w.dynamic;
      count = length-members 1 2 w.others ∙ dynamic.1 ∙ size;
      setting' = refl;
    })

-- nothing else is linked with it, and it is a program
pub is_alone : (n : ℕ) (list : List Member) → IsList n list → setting_in list ≡ without_runtimes
is_alone n list is = ap setting_in is.parts ∙ is.setting'

-- each dynamic segment's name has its one member
pub has_named : (n i : ℕ) (list : List Member) → IsList n list → n ≤ 64 → 1 ≤ i → i ≤ n → IsNamedAt i 1 list
has_named n i list is few some less =
    subst (IsNamedAt i 1) (sym is.parts) (named_after i is.main is.others is.title is.named' some (omega (arith, less, is.count)) (omega (arith, is.count, few)))

-- ---- names

-- a member asks for a dynamic segment's name
abbrev IsOwnAsked : ℕ → PlacedUse → Type 0
IsOwnAsked n a = IsOwn n a.member.segment × IsOwnUse n a.use'

uses_placed : (n place : ℕ) (ms : List Member) → n ≤ 64 → AreOwn n ms → AllByRecursion (IsOwnAsked n) (asked_from place ms)
uses_placed n place [] few own = tt
uses_placed n place (m ∷ ms) few own =
    both (map (λ (u : Use). record { place = place; member = m; use' = u }) (uses_of m.segment)) (asked_from (place + 1) ms) (each (uses_of m.segment) (uses_are n m.segment few own.0)) (uses_placed n (place + 1) ms few own.1)
  where
    both : (xs ys : List PlacedUse) → AllByRecursion (IsOwnAsked n) xs → AllByRecursion (IsOwnAsked n) ys → AllByRecursion (IsOwnAsked n) (xs ++ ys)
    both [] ys p q = q
    both (x ∷ xs) ys p q = (p.0, both xs ys p.1 q)

    each : (us : List Use) → AllByRecursion (IsOwnUse n) us → AllByRecursion (IsOwnAsked n) (map (λ (u : Use). record { place = place; member = m; use' = u }) us)
    each [] all = tt
    each (u ∷ us) all = ((own.0, all.0), each us all.1)

abbrev some_cause : LinkCause → Option LinkCause
some_cause c = Some c

abbrev no_link_cause : Option LinkCause
no_link_cause = None

no_use_fault : (n : ℕ) (list : List Member) → n ≤ 64 → IsList n list → (fault : LinkFault) → IsFirst (HasUseFault list) (all_uses list) fault → ⊥
unfolding all_uses
no_use_fault n list few is fault first = never_in (HasUseFault list) (asked_from 1 list) clear fault first
  where
    clear : (front : List PlacedUse) (a : PlacedUse) (fault : LinkFault) → IsIn (asked_from 1 list) a → HasUseFault list front a fault → ⊥
    clear front a fault among has =
        let own = all_in (IsOwnAsked n) (asked_from 1 list) a (uses_placed n 1 list few is.all) among in
        let i = own.1.1.0 in
        let at = has_named n i list is few own.1.1.1 own.1.1.2 in
        let one : finds list a.place a.member a.use'.name ≡ title_at (1 + length at.front) at.member ∷ [] =
        ap (finds list a.place a.member) own.1.1.3 ∙ finds_one n i a.place list a.member few is.all own.0 at in
        let none : use_cause a.use'.want (found_for list a.place a.member a.use') ≡ None =
        ap (λ (w : Rattle.link_meaning.specs.declared.search.SearchKind.SearchKind). use_cause w (found_for list a.place a.member (record { want = w; name = a.use'.name; at = a.use'.at }))) own.1.0 ∙ ap (use_cause One) one in
        let clash : no_link_cause ≡ some_cause fault.cause = sym none ∙ has.cause in
        cc

-- ---- layout

in_range : {A : Type 0} (xs : List A) (k : ℕ) (x : A) → slice_get xs k ≡ Some x → k < length xs
in_range [] k x e = absurd cc
in_range (y ∷ ys) zero x e = omega arith
in_range (y ∷ ys) (suc k) x e = omega (arith, in_range ys k x e)

filter-le : {A : Type 0} (p : A → Bool) (xs : List A) → length (filter p xs) ≤ length xs
filter-le p [] = omega arith
filter-le p (x ∷ xs) = elim (cases_Bool (p x)) [
  | inl passes ↦ rw passes (omega (arith, filter-le p xs))
  | inr other ↦ rw other (omega (arith, filter-le p xs))
]

distinct-le : (xs : List (List ℕ)) → length (distinct xs) ≤ length xs
distinct-le [] = omega arith
distinct-le (x ∷ xs) = omega (arith, filter-le (λ y. not (bytes_eq y x)) (distinct xs), distinct-le xs)

pub few_names : (n : ℕ) (list : List Member) → IsList n list → length (load_names list) ≤ n + 1
unfolding load_names
few_names n list is =
    omega (arith, distinct-le (map (λ (m : Member). m.segment.fields.load_name) list), length-map list (λ (m : Member). m.segment.fields.load_name), ap length is.parts, is.count)

-- no other member has the load name
none_at : (i j end : ℕ) (ms : List Member) → AreNamed j ms → i < j → j + length ms ≤ 65 → end_from end (padded (name_of i)) ms ≡ end
none_at i j end [] are less few = refl
none_at i j end (m ∷ ms) are less few =
    let other : bytes_eq m.segment.fields.load_name (padded (name_of i)) ≡ false =
    ap (λ (l : List ℕ). bytes_eq l (padded (name_of i))) are.1 ∙ padded_differs j i (omega (arith, few)) (omega (arith, less, few)) (λ e. omega (arith, e, less)) in
    rw other (none_at i (j + 1) end ms are.2 (omega (arith, less)) (omega (arith, few)))

none_after : (j end : ℕ) (ms : List Member) → AreNamed j ms → end_from end (padded (codes "MAIN")) ms ≡ end
none_after j end [] are = refl
none_after j end (m ∷ ms) are =
    let other : bytes_eq m.segment.fields.load_name (padded (codes "MAIN")) ≡ false = ap (λ (l : List ℕ). bytes_eq l (padded (codes "MAIN"))) are.1 ∙ padded_not_main j in
    rw other (none_after (j + 1) end ms are.2)

first_end : (n : ℕ) (m : Member) → IsOwn n m.segment → aligned_from (alignment_of m.segment.fields.align) 0 + m.segment.fields.length ≤ 4114
first_end n m own =
    let one : alignment_of m.segment.fields.align ≡ 1 = ap alignment_of own.align in
    let same : aligned_from (alignment_of m.segment.fields.align) 0 ≡ aligned_from 1 0 = ap (λ (a : ℕ). aligned_from a 0) one in
    let least : aligned_from 1 0 ≤ 0 = (aligned_from-least 0 1 (omega arith)).least 0 (omega arith) (omega arith) in
    omega (arith, same, least, own.small)

one_at : (n j : ℕ) (x : List ℕ) (ms : List Member) → AreOwn n ms → AreNamed j ms → j + length ms ≤ 65 → end_from 0 x ms ≤ 4114
one_at n j x [] own are few = omega arith
one_at n j x (m ∷ ms) own are few = elim (cases_Bool (in_load x m)) [
  | inl here ↦
      let name : padded (name_of j) ≡ x = sym are.1 ∙ (bytes_eq-Decides m.segment.fields.load_name x).0 here in
      let end = aligned_from (alignment_of m.segment.fields.align) 0 + m.segment.fields.length in
      let rest : end_from end x ms ≡ end = subst (λ (y : List ℕ). end_from end y ms ≡ end) name (none_at j (j + 1) end ms are.2 (omega arith) (omega (arith, few))) in
      rw here (omega (arith, rest, first_end n m own.0))
  | inr other ↦ rw other (one_at n (j + 1) x ms own.1 are.2 (omega (arith, few)))
]

main_first : (n : ℕ) (x : List ℕ) (main : Member) (ms : List Member) → IsOwn n main.segment → AreOwn n ms → main.segment.fields.load_name ≡ padded (codes "MAIN") → AreNamed 1 ms → length ms ≤ 64 → end_from 0 x (main ∷ ms) ≤ 4114
main_first n x main ms own all is are few = elim (cases_Bool (in_load x main)) [
  | inl here ↦
      let name : padded (codes "MAIN") ≡ x = sym is ∙ (bytes_eq-Decides main.segment.fields.load_name x).0 here in
      let end = aligned_from (alignment_of main.segment.fields.align) 0 + main.segment.fields.length in
      let rest : end_from end x ms ≡ end = subst (λ (y : List ℕ). end_from end y ms ≡ end) name (none_after 1 end ms are) in
      rw here (omega (arith, rest, first_end n main own))
  | inr other ↦ rw other (one_at n 1 x ms all are (omega (arith, few)))
]

-- each load segment is short
pub short_load : (n : ℕ) (x : List ℕ) (list : List Member) → n ≤ 64 → IsList n list → load_length x list ≤ 4114
unfolding load_length
short_load n x list few is =
    let all = subst (AreOwn n) is.parts is.all in
    subst (λ (l : List Member). end_from 0 x l ≤ 4114) (sym is.parts) (main_first n x is.main is.others all.0 all.1 is.load_name is.named' (omega (arith, is.count, few)))

all_filter : {A : Type 0} (P : A → Type 0) (p : A → Bool) (xs : List A) → AllByRecursion P xs → AllByRecursion P (filter p xs)
all_filter P p [] all = tt
all_filter P p (x ∷ xs) all = elim (cases_Bool (p x)) [
  | inl passes ↦ rw passes (all.0, all_filter P p xs all.1)
  | inr other ↦ rw other (all_filter P p xs all.1)
]

bank_is : (n : ℕ) (ms : List Member) → AreOwn n ms → (least_bank ms ≡ 0) ⊎ (least_bank ms ≡ 0x10000)
bank_is n [] own = inl refl
bank_is n (m ∷ ms) own = inr (ap (λ (a : ℕ). lesser_bank a (least_bank ms)) own.0.bank ∙ by_rest (bank_is n ms own.1))
  where
    by_rest : (least_bank ms ≡ 0) ⊎ (least_bank ms ≡ 0x10000) → lesser_bank 0x10000 (least_bank ms) ≡ 0x10000
    by_rest (inl none) = ap (lesser_bank 0x10000) none
    by_rest (inr one) = ap (lesser_bank 0x10000) one

fits_bank : (bank size : ℕ) → (bank ≡ 0) ⊎ (bank ≡ 0x10000) → size ≤ 4114 → (ltb 0xFFFFFF size || (not (eqb bank 0) && ltb bank size)) ≡ false
fits_bank bank size (inl none) small = rw (le-ltb 0xFFFFFF size (omega (arith, small))) (ap (λ (b : ℕ). not (eqb b 0) && ltb b size) none)
fits_bank bank size (inr one) small = rw (le-ltb 0xFFFFFF size (omega (arith, small))) (ap (λ (b : ℕ). not (eqb b 0) && ltb b size) one ∙ le-ltb 0x10000 size (omega (arith, small)))

not_too_long : (n number : ℕ) (x : List ℕ) (list : List Member) → n ≤ 64 → IsList n list → is_too_long (load_fields list number x) ≡ false
unfolding load_fields load_members
not_too_long n number x list few is =
    fits_bank (least_bank (filter (in_load x) list)) (load_length x list) (bank_is n (filter (in_load x) list) (all_filter (λ (m : Member). IsOwn n m.segment) (in_load x) list is.all)) (short_load n x list few is)

in_headers : (list : List Member) (number : ℕ) (xs : List (List ℕ)) (f : HeaderFields) → IsIn (headers_from list number xs) f → (k : ℕ) × (x : List ℕ) × (f ≡ load_fields list k x)
in_headers list number [] f is = absurd is
in_headers list number (x ∷ xs) f (inl e) = (number, x, sym e)
in_headers list number (x ∷ xs) f (inr more) = in_headers list (number + 1) xs f more

true_false : true ≡ false → ⊥
true_false e = cc

no_layout_fault : (n : ℕ) (list : List Member) → n ≤ 64 → IsList n list → (before : List LayoutCheck) (check : LayoutCheck) (fault : LinkFault) → HasLayoutFault list before check fault → ⊥
unfolding load_headers
no_layout_fault n list few is before Orgs fault has =
    never_in HasOrgFault list (λ front m reported among asked. asked.asks (all_in (λ (o : Member). IsOwn n o.segment) list m is.all among).org) fault has
no_layout_fault n list few is before Count fault has =
    omega (arith, in_range (load_names list) 254 has.load_name has.there, few_names n list is, few)
no_layout_fault n list few is before Lengths fault has =
    never_in (HasLengthFault list) (headers_from list 1 (load_names list)) (λ front f reported among long. let of = in_headers list 1 (load_names list) f among in
    true_false (sym long.long ∙ ap is_too_long of.2 ∙ not_too_long n of.0 of.1 list few is)) fault has
no_layout_fault n list few is before Kinds fault has =
    never_in (HasKindFault list) (headers_from list 1 (load_names list)) (λ front f reported among other.
    true_false (sym other.other ∙ ap (λ (s : LinkSetting). may_not_stand s.form f) (is_alone n list is))) fault has

-- ---- all of it

abbrev no_found : Option (ℕ × (LinkCause × ℕ))
no_found = None

abbrev some_found : ℕ × (LinkCause × ℕ) → Option (ℕ × (LinkCause × ℕ))
some_found found = Some found

abbrev fine_rows : List OfferedRow → Result (List OfferedRow) ℕ
fine_rows rows = Ok rows

same_rows : (a b : List OfferedRow) → fine_rows a ≡ fine_rows b → a ≡ b
same_rows a b e = cc

module _ (n : ℕ) (sizes object : List ℕ) (segments : List Segment) (few : n ≤ 64) (size : length sizes ≡ n) (is_file : IsFile segments object) (w : IsWorkload n sizes segments) where
  abbrev list : List Member
  list = members_from without_runtimes 1 1 segments

  all_own : AllByRecursion (IsOwn n) segments
  all_own = subst (AllByRecursion (IsOwn n)) (sym w.parts) (w.own, (dynamic_own n 1 sizes w.others w.dynamic).0)

  no_library : is_library segments ≡ false
  no_library = ap is_library w.parts ∙ ap (λ (form : ℕ). form == 0x08) w.own.form

  no_rows : rows_in_file segments ≡ Ok []
  no_rows = rw no_library refl

  no_file_fault : (number : ℕ) (fault : LinkFault) → HasFileFault number object fault → ⊥
  no_file_fault number fault (OfFile found first reported) = no_file object found segments first is_file
  no_file_fault number fault (OfSegment others found is faulty reported) =
      let none : segments_fault 1 others ≡ None = ap (segments_fault 1) (file_same others segments object is is_file) ∙ no_faults n 1 segments all_own in
      let clash : no_found ≡ some_found found = sym none ∙ faulty in
      cc
  no_file_fault number fault (OfDictionary others at is sound rows reported) =
      let none : rows_in_file others ≡ Ok [] = ap rows_in_file (file_same others segments object is is_file) ∙ no_rows in
      let clash : fine_rows [] ≡ Err at = sym none ∙ rows in
      cc

  input : Input
  input = record { segments = segments; rows = [] }

  is_input : IsInput object input
  unfolding input
  is_input = record { is_file = is_file; sound = no_faults n 1 segments all_own; rows = no_rows }

  inputs_are : (inputs : List Input) → AreInputs (object ∷ []) inputs → inputs ≡ input ∷ []
  unfolding input
  inputs_are [] are = absurd are
  inputs_are (i ∷ []) are =
      let same : i.segments ≡ segments = file_same i.segments segments object are.0.is_file is_file in
      let rows : i.rows ≡ [] = same_rows i.rows [] (sym are.0.rows ∙ ap rows_in_file same ∙ no_rows) in
      ap (λ (s : List Segment). record { segments = s; rows = i.rows } ∷ []) same ∙ ap (λ (r : List OfferedRow). record { segments = segments; rows = r } ∷ []) rows
  inputs_are (i ∷ j ∷ inputs) are = absurd are.1

  objects_are : objects without_runtimes (input ∷ []) ≡ list
  unfolding objects input
  objects_are = rw no_library (append-nil (members_from without_runtimes 1 1 segments))

  offers_are : library_offers without_runtimes (input ∷ []) ≡ []
  unfolding library_offers input
  offers_are = refl

  -- it is linked to a program, with no run-time library file
  alone_is : (setting : LinkSetting) → IsSetting (plain (object ∷ [])) setting → setting ≡ without_runtimes
  alone_is setting is =
      ap (λ (form : LinkForm). record { form = form; runtimes = setting.runtimes }) is.form'
      ∙ ap (λ (runtimes : List RuntimeFile). record { form = Program; runtimes = runtimes }) (none setting.runtimes is.runtimes')
    where
      none : (runtimes : List RuntimeFile) → AreRuntimes [] runtimes → runtimes ≡ []
      none [] are = refl
      none (r ∷ runtimes) are = absurd are

  is_program : IsProgram (plain (object ∷ [])) list
  is_program = record {
    setting = without_runtimes;
    is_setting = record { form' = refl; runtimes' = tt };
    inputs = input ∷ [];
    are_inputs = (is_input, tt);
    linked = record {
      added = [];
      parts = sym objects_are ∙ sym (append-nil (objects without_runtimes (input ∷ [])));
      follow = ap (λ (o : List Offer). wanted o (objects without_runtimes (input ∷ []))) offers_are ∙ none_wanted (objects without_runtimes (input ∷ []));
    };
  }

  program_is : (other : List Member) → IsProgram (plain (object ∷ [])) other → other ≡ list
  program_is other p =
      let with_setting : IsLinked without_runtimes p.inputs other = subst (λ (setting : LinkSetting). IsLinked setting p.inputs other) (alone_is p.setting p.is_setting) p.linked in
      let linked : IsLinked without_runtimes (input ∷ []) other = subst (λ (is : List Input). IsLinked without_runtimes is other) (inputs_are p.inputs p.are_inputs) with_setting in
      let none : linked.added ≡ [] = none_follow (objects without_runtimes (input ∷ [])) linked.added (subst (λ (o : List Offer). Follow o (objects without_runtimes (input ∷ [])) linked.added) offers_are linked.follow) in
      linked.parts ∙ ap (λ (l : List Member). objects without_runtimes (input ∷ []) ++ l) none ∙ append-nil (objects without_runtimes (input ∷ [])) ∙ objects_are

  listed : IsList n list
  listed = is_list n sizes segments size w

  no_phase_fault : (before : List Phase) (phase : Phase) (fault : LinkFault) → HasPhaseFault (plain (object ∷ [])) before phase fault → ⊥
  no_phase_fault before Reading fault has =
      let same = only_one (OfInput object) has.item has.before has.after has.parts in
      no_file_fault (length has.before + 1) fault (subst (λ (part : InputPart). HasPartFault has.before part fault) same has.here)
  no_phase_fault before Objects fault has =
      let none : list ≡ [] =
      sym objects_are ∙ ap (objects without_runtimes) (sym (inputs_are has.1 has.3)) ∙ ap (λ (setting : LinkSetting). objects setting has.1) (sym (alone_is has.0 has.2)) ∙ has.4 in
      omega (arith, ap length none, ap length listed.parts)
  no_phase_fault before Names fault has =
      no_use_fault n list few listed fault (subst (λ (l : List Member). IsFirst (HasUseFault l) (all_uses l) fault) (program_is has.0 has.1) has.2)
  no_phase_fault before Layout fault has =
      let first = subst (λ (l : List Member). IsFirst (HasLayoutFault l) (Orgs ∷ Count ∷ Lengths ∷ Kinds ∷ []) fault) (program_is has.0 has.1) has.2 in
      no_layout_fault n list few listed first.before first.item fault first.here

  -- no phase finds a fault in it
  pub is_resolved : IsResolved (plain (object ∷ [])) list
  is_resolved = record { program = is_program; sound = never (HasPhaseFault (plain (object ∷ []))) phases no_phase_fault }

  pub members_listed : IsList n list
  members_listed = listed
